-- The library's smaller number is the definition's, and fits 16 bits. Assumes nothing.
use Rattle.std.proofs.Common.{◌≡◌, ◌≤◌, arith, refl, ◌∙◌}
use Rattle.std.specs.Int.{int_min}
use lib.IntN.{ℤ, negsuc, ◌-ℤ◌}
use mir.Syntax.{w16, w32}
use mir.Val.{SFits, to_z, of_z}
use mir.Facts.{to_z-of_z}
use Rattle.ints.proofs.Order.{parts_alone, parts_same}
use Rattle.ints.proofs.Sums.{up_diff}
use Rattle.ints.proofs.Widths.{fits_up, fits_down, parts_fit}
use Rattle.ints.specs.Parts.{up, down}
use Rattle.spectrum.proofs.Extremes.{chosen_lt_z, chosen_le_z, min_left, min_least}
use Rattle.spectrum.proofs.Widened.{wide}
use Rattle.spectrum.specs.Values.{min_z}
use Rattle.nlsf_stabilize_fallback.proofs.lower_one.Goals as goal

smaller : (a b : ℤ) → int_min a b ≡ min_z a b
unfolding min_z
smaller a b = chosen_le_z (λ (z : ℤ). int_min a b ≡ z) a b
    (λ h. chosen_lt_z (λ (z : ℤ). z ≡ a) b a (λ k. parts_same b a (omega arith)) (λ k. refl))
    (λ h. chosen_lt_z (λ (z : ℤ). z ≡ b) b a (λ k. refl) (λ k. parts_same a b (omega arith)))

module _ (x n g : ℤ) (fx : SFits w16 x) (fn : SFits w32 n) (fg : SFits w16 g)
    (b : (up n ≤ 32768) × ((down n ≤ 32768) × (down (n -ℤ g) ≤ 32768))) where
  y_fits : SFits w32 (n -ℤ g)
  y_fits = parts_fit (n -ℤ g) (omega (arith, b, up_diff n g, fits_up g fg, fits_down g fg)) (omega (arith, b))

  module _ (p q m : ℤ) (ep : p ≡ to_z w16 (of_z w16 x)) (eq : q ≡ to_z w16 (of_z w16 g))
      (em : m ≡ int_min (to_z w32 (of_z w32 p)) (to_z w32 (of_z w32 (to_z w32 (of_z w32 n) -ℤ to_z w32 (of_z w32 q))))) where
    least : m ≡ min_z x (n -ℤ g)
    least = (rw (ep, eq, to_z-of_z fx, to_z-of_z fg, to_z-of_z (wide fx), to_z-of_z (wide fg), to_z-of_z fn, to_z-of_z y_fits) at em) ∙ smaller x (n -ℤ g)

    narrow : SFits w16 m
    narrow =
        let z = min_z x (n -ℤ g) in
        let low = min_least x (n -ℤ g) (negsuc 32767) (omega (arith, fits_down x fx)) (omega (arith, b)) in
        rw least (parts_fit z (omega (arith, min_left x (n -ℤ g), fits_up x fx, parts_alone z)) (omega (arith, low, parts_alone z)))

pub overflow_cast-result : goal.overflow_cast-result
overflow_cast-result c =
    let r = c.ranges in
    let f = narrow c.args.x c.args.next c.args.gap r.x r.next r.gap c.requires _ _ _ c.from.ensures c.from-2.ensures c.min.ensures.value in
    rw (to_z-of_z (wide f)) f

pub returns : goal.returns
returns c =
    let a = c.args in
    let r = c.ranges in
    let f = narrow a.x a.next a.gap r.x r.next r.gap c.requires _ _ _ c.from.ensures c.from-2.ensures c.min.ensures.value in
    rw (to_z-of_z (wide f), to_z-of_z f)
    (least a.x a.next a.gap r.x r.next r.gap c.requires _ _ _ c.from.ensures c.from-2.ensures c.min.ensures.value)
