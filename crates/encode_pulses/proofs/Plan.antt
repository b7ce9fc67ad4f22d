-- A plan of a frame's smallest shifts suits the frame, and what it says is what the call writes. Assumes nothing.
use Prim.Native.Nat.{ℕ, ◌≤◌}
use mathlib.Core.Path.{◌≡◌, sym, ap, subst, ◌∙◌}
use mathlib.Core.Bool.{Bool, true}
use mathlib.Core.List.{List, map}
use lib.Dec.{leb}
use lib.IntN.{ℤ}
use lib.ListN.{length, take}
use Rattle.lists.specs.Every.{every}
use Rattle.entcode.specs.Flat.{Out}
use Rattle.tree.specs.Telling.{written_all}
use Rattle.tree.specs.Inner.Told.{Told}
use Rattle.silk.specs.PulseSyntax.{excitation, rows16}
use Rattle.silk.specs.PulseWriting.{excited, pulses_say}
use Rattle.silk.specs.Inner.Pulses.{least_shift, Suited, Planned}
use Rattle.silk.proofs.PulsePlans.{suited_shifts}

module _ (n : ℕ) (v : List ℤ) (c l : List ℕ) (t : Bool) (g : Planned (rows16 n v) c l t) (e : t ≡ true) (h : n ≤ length l) where
  shifts_are : map least_shift (rows16 n v) ≡ take n l
  shifts_are = suited_shifts (map least_shift (rows16 n v)) c l n v (g.suited e) h

  pub plan_suits : Suited (take n l) (rows16 n v) c l
  plan_suits = subst (λ (js : List ℕ). Suited js (rows16 n v) c l) shifts_are (g.suited e)

  pub plan_says : (o q : Out) (signal offset rate m k : ℕ) → n ≡ m → Told o (excited rate (take n l) (rows16 n v)) (excitation signal offset n) k q
      → q ≡ written_all o (pulses_say signal offset m rate (map least_shift (rows16 m v)) (rows16 m v))
  plan_says o q signal offset rate m k i w =
      w.is
      ∙ ap (λ (js : List ℕ). written_all o (pulses_say signal offset n rate js (rows16 n v))) (sym shifts_are)
      ∙ ap (λ (j : ℕ). written_all o (pulses_say signal offset j rate (map least_shift (rows16 j v)) (rows16 j v))) i

-- whether each block has a shift
pub plan_fits : (n m : ℕ) (v : List ℤ) (c l : List ℕ) (t b : Bool) → Planned (rows16 n v) c l t → n ≡ m → t ≡ b
    → every (λ p. leb (least_shift p) 10) (rows16 m v) ≡ b
plan_fits n m v c l t b g i e = ap (λ (k : ℕ). every (λ p. leb (least_shift p) 10) (rows16 k v)) (sym i) ∙ sym g.is ∙ e
