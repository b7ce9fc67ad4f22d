-- Stabilising a line spectrum (RFC 6716, section 4.2.7.5.4): moves in whole numbers while a gap is too small, at most
-- 20, then the fallback. Assumes nothing.
use Rattle.std.specs.Prelude.{ℕ, zero, suc, cond, List, ℤ}
use Rattle.spectrum.specs.Distances.{keeps, place, move}
use Rattle.spectrum.specs.Fallback.{fallback}

-- a vector, and how many moves were made
pub record Stable : Type 0 where
  pub vector : List ℤ
  pub moves : ℕ

abbrev pub one_more : Stable → Stable
one_more s = record { vector = s.vector; moves = suc s.moves }

-- at most n moves, then the fallback
unfoldable pub run : ℕ → List ℤ → List ℤ → Stable
run zero g v = record { vector = fallback g v; moves = 0 }
run (suc n) g v = cond (keeps g v) (record { vector = v; moves = 0 }) (one_more (run n g (move g v (place g v))))

unfoldable pub stabilise : List ℤ → List ℤ → Stable
stabilise g v = run 20 g v
