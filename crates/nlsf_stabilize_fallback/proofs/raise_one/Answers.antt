-- The library's larger number and saturated sum are the definition's. Assumes nothing.
use Rattle.std.proofs.Common.{◌≡◌, min, arith, rules, refl, ap, ◌∙◌}
use Rattle.std.specs.Int.{int_max, saturate_signed}
use lib.IntN.{ℤ, pos, negsuc, ◌+ℤ◌}
use mir.Syntax.{w16}
use mir.Val.{SFits, to_z, of_z}
use mir.Facts.{to_z-of_z}
use Rattle.ints.proofs.Order.{parts_same}
use Rattle.spectrum.proofs.Extremes.{chosen_lt_z, chosen_le_z}
use Rattle.spectrum.specs.Fallback.{sat16}
use Rattle.spectrum.specs.Values.{max_z, held}
use Rattle.nlsf_stabilize_fallback.proofs.raise_one.Goals as goal

larger : (a b : ℤ) → int_max a b ≡ max_z a b
unfolding max_z
larger a b = chosen_le_z (λ (z : ℤ). int_max a b ≡ z) a b
    (λ h. chosen_lt_z (λ (z : ℤ). z ≡ b) b a (λ k. parts_same a b (omega arith)) (λ k. refl))
    (λ h. chosen_lt_z (λ (z : ℤ). z ≡ a) b a (λ k. refl) (λ k. parts_same b a (omega arith)))

saturated : (z : ℤ) → saturate_signed w16 z ≡ sat16 z
unfolding held
saturated (pos n) = chosen_lt_z (λ (x : ℤ). pos (min n 32767) ≡ x) (pos 32767) (pos n) (λ h. parts_same _ _ (omega arith)) (λ h. parts_same _ _ (omega arith))
saturated (negsuc n) = chosen_lt_z (λ (x : ℤ). negsuc (min n 32767) ≡ x) (negsuc n) (negsuc 32767) (λ h. parts_same _ _ (omega arith)) (λ h. parts_same _ _ (omega arith))

sat_fits : (z : ℤ) → SFits w16 (saturate_signed w16 z)
sat_fits (pos n) = record { sfits = omega arith }
sat_fits (negsuc n) = record { sfits = omega arith }

-- as the machine reads a number
abbrev read : ℤ → ℤ
read z = to_z w16 (of_z w16 z)

pub returns : goal.returns
returns c =
    let f : SFits w16 c.max.result = search rules in
    let x = c.args.x in
    let y = c.args.prev +ℤ c.args.gap in
    let r = c.ranges in
    let e : c.max.result ≡ int_max (read x) (read (saturate_signed w16 (read c.args.prev +ℤ read c.args.gap))) = cc in
    to_z-of_z f ∙ (rw (to_z-of_z r.x, to_z-of_z r.prev, to_z-of_z r.gap, to_z-of_z (sat_fits y)) at e)
    ∙ larger x (saturate_signed w16 y) ∙ ap (max_z x) (saturated y)
