-- A block of no pulses has no splits to say. Assumes nothing.
use Prim.Native.Nat.{ℕ, zero, suc, ◌^◌}
use mathlib.Core.Path.{◌≡◌, refl, ◌∙◌}
use mathlib.Core.List.{List, []}
use lib.ListN.{take, drop}
use Rattle.entcode.specs.Flat.{Out}
use Rattle.entcode.specs.Inner.Writing.{Core}
use Rattle.tree.specs.Asks.{then, of, symbols}
use Rattle.tree.proofs.AsksLaws.{symbols_then, symbols_of}
use Rattle.tree.specs.Inner.Told.{Told}
use Rattle.tree.proofs.Told.{midway_start, midway_end}
use Rattle.silk.specs.PulseSyntax.{split, shell}

no_splits : (k : ℕ) (y : List ℕ) → symbols y (shell k 0) ≡ []
unfolding shell split symbols then
no_splits zero y = refl
no_splits (suc k) y =
    let n = 2 ^ k in
    symbols_then y (of (take n) (shell k 0)) _
    ∙ rw (symbols_of y (take n) (shell k 0), no_splits k (take n y))
    (symbols_then y (of (drop n) (shell k 0)) _ ∙ rw (symbols_of y (drop n) (shell k 0), no_splits k (drop n y)))

pub splits_untold : {o : Out} {n : ℕ} (c : ℕ) (y : List ℕ) → c ≡ 0 → Core o → Told o y (shell 4 c) n o
splits_untold c y e h = rw e (midway_end (midway_start h) (no_splits 4 y))
