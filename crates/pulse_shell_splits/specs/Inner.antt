-- The splits of a block as a list of parts. Assumes nothing.
use Rattle.std.specs.Prelude.{ℕ, zero, suc, ◌^◌, List, [], ◌∷◌, ◌++◌, take, drop}
use Rattle.silk.specs.PulseSyntax.{total}

-- 2^(table + 1) places
pub record Part : Type 0 where
  pub table : ℕ
  pub places : List ℕ

-- a split, then those of its left half, then those of its right half
unfoldable pub parts_of : ℕ → List ℕ → List Part
parts_of zero y = []
parts_of (suc k) y = record { table = k; places = y } ∷ (parts_of k (take (2 ^ k) y) ++ parts_of k (drop (2 ^ k) y))

-- all pulses, and those of the left half
abbrev pub all_of : Part → ℕ
all_of q = total q.places

abbrev pub left_of : Part → ℕ
left_of q = total (take (2 ^ q.table) q.places)
