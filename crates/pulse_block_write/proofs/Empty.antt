-- A block without pulses, by its count and its low bits, has no sign to say. Assumes nothing.
use Prim.Native.Nat.{ℕ, zero, suc, ◌/◌, ◌^◌}
use mathlib.Core.Path.{◌≡◌, refl, sym, ◌∙◌}
use mathlib.Core.List.{List, [], ◌∷◌, map}
use native.Mathlib.Nat.{div-one}
use native.Mathlib.Omega.{arith}
use lib.IntN.{ℤ, pos, nat_abs}
use Rattle.entcode.specs.Flat.{Out}
use Rattle.entcode.specs.Inner.Writing.{Core}
use Rattle.tree.specs.Asks.{symbols}
use Rattle.tree.proofs.AsksLaws.{symbols_cons}
use Rattle.tree.specs.Inner.Told.{Told}
use Rattle.tree.proofs.Told.{midway_start, midway_end}
use Rattle.silk.specs.PulseSyntax.{head_of, tail_of, each, total, sign}
use Rattle.silk.specs.PulseWriting.{shifted_by}

no_signs : (r : List ℕ) (y : List ℤ) (v : List ℕ) → total v ≡ 0 → symbols y (each (pos 0) (sign r) v) ≡ []
unfolding each total sign symbols
no_signs r y [] e = refl
no_signs r y (zero ∷ v) e = symbols_cons y (head_of (pos 0)) (sign r 0) tail_of (each (pos 0) (sign r) v) ∙ no_signs r (tail_of y) v (omega arith)
no_signs r y (suc x ∷ v) e = absurd (omega arith)

whole_total : (v : List ℕ) → total (map (λ m. m / 2 ^ 0) v) ≡ total v
unfolding total
whole_total [] = refl
whole_total (x ∷ v) = omega (arith, div-one x, whole_total v)

pub signs_untold : {o : Out} {n : ℕ} (r : List ℕ) (c j : ℕ) (p : List ℤ) → total (shifted_by j p) ≡ c → c ≡ 0 → j ≡ 0 → Core o
    → Told o p (each (pos 0) (sign r) (map nat_abs p)) n o
signs_untold r c j p e z i h =
    let t : total (map nat_abs p) ≡ 0 = sym (whole_total (map nat_abs p)) ∙ rw i at e ∙ z in midway_end (midway_start h) (no_signs r p (map nat_abs p) t)
