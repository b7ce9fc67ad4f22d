-- The library's smaller number is the definition's, and fits 16 bits. Assumes nothing.
use Rattle.std.proofs.Common.{◌≡◌, arith, refl, ◌∙◌}
use Rattle.std.specs.Int.{int_min}
use lib.IntN.{ℤ, pos, negsuc}
use mir.Syntax.{w16, w32}
use mir.Val.{SFits, to_z, of_z}
use mir.Facts.{to_z-of_z, sfits_widen}
use Rattle.ints.proofs.Order.{parts_alone, parts_same}
use Rattle.ints.proofs.Widths.{parts_fit}
use Rattle.spectrum.proofs.Extremes.{chosen_lt_z, chosen_le_z, min_right, min_least}
use Rattle.spectrum.specs.Inner.{capped}
use Rattle.spectrum.specs.Values.{Mag, min_z}
use Rattle.nlsf_stabilize_move.proofs.cap.Goals as goal

smaller : (a b : ℤ) → int_min a b ≡ min_z a b
unfolding min_z
smaller a b = chosen_le_z (λ (z : ℤ). int_min a b ≡ z) a b
    (λ h. chosen_lt_z (λ (z : ℤ). z ≡ a) b a (λ k. parts_same b a (omega arith)) (λ k. refl))
    (λ h. chosen_lt_z (λ (z : ℤ). z ≡ b) b a (λ k. refl) (λ k. parts_same a b (omega arith)))

module _ (x m : ℤ) (f : SFits w32 x) (g : Mag 32768 x) (e : m ≡ int_min (to_z w32 (of_z w32 x)) (pos 32767)) where
  least : m ≡ capped x
  unfolding capped
  least = (rw (to_z-of_z f) at e) ∙ smaller x (pos 32767)

  narrow : SFits w16 m
  unfolding capped
  narrow =
      let z = min_z x (pos 32767) in
      let low = min_least x (pos 32767) (negsuc 32767) (omega (arith, g)) (omega arith) in
      rw least (parts_fit z (omega (arith, min_right x (pos 32767), parts_alone z)) (omega (arith, low, parts_alone z)))

pub overflow_cast-result : goal.overflow_cast-result
overflow_cast-result c =
    let f = narrow c.args.x _ c.ranges.x c.requires c.min.ensures.value in
    rw (to_z-of_z (sfits_widen {w = w16} tt f)) f

pub returns : goal.returns
returns c =
    let f = narrow c.args.x _ c.ranges.x c.requires c.min.ensures.value in
    rw (to_z-of_z (sfits_widen {w = w16} tt f), to_z-of_z f) (least c.args.x _ c.ranges.x c.requires c.min.ensures.value)
