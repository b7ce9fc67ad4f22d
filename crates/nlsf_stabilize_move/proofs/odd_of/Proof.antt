-- `odd_of` meets its contract. Assumes nothing.
use mathlib.Core.Path.{◌≡◌}
use native.Mathlib.Omega.{arith}
use lib.IntN.{ℤ, pos, ◌-ℤ◌, ◌*ℤ◌}
use mir.Syntax.{w16, w32}
use mir.Val.{SFits}
use mir.Facts.{to_z-of_z}
use Rattle.ints.proofs.Sums.{up_diff, down_diff, up_times, down_times}
use Rattle.ints.proofs.Widths.{fits_up, parts_fit, shr_fits}
use Rattle.ints.specs.Parts.{down}
use Rattle.spectrum.proofs.Extremes.{half_nat}
use Rattle.spectrum.proofs.Widened.{wide, read16}
use Rattle.spectrum.specs.Values.{half}
use Rattle.nlsf_stabilize_move.proofs.odd_of.Statement.{statement}
use Rattle.nlsf_stabilize_move.proofs.odd_of.Tie as tie

module _ (g : ℤ) (f : SFits w16 g) (n : down g ≡ 0) where
  half_fits : SFits w32 (half g)
  half_fits = shr_fits g 2 (wide f)

  twice_fits : SFits w32 (half g *ℤ pos 2)
  twice_fits =
      let h = half_nat g n in
      parts_fit (half g *ℤ pos 2) (omega (arith, up_times (half g) 2, h, fits_up g f)) (omega (arith, down_times (half g) 2, h.0))

  odd_fits : SFits w32 (g -ℤ half g *ℤ pos 2)
  odd_fits =
      let h = half_nat g n in
      let t = half g *ℤ pos 2 in
      parts_fit (g -ℤ t) (omega (arith, up_diff g t, up_times (half g) 2, down_times (half g) 2, h, fits_up g f))
      (omega (arith, down_diff g t, up_times (half g) 2, down_times (half g) 2, h, n))

cast_h : tie.Need-overflow_cast-h
cast_h c = rw (to_z-of_z c.ranges.gap) (wide c.ranges.gap)

cast_result : tie.Need-overflow_cast-result
cast_result c = rw (to_z-of_z c.ranges.gap) (wide c.ranges.gap)

mul_result : tie.Need-overflow_mul-result
mul_result c = let f = c.ranges.gap in rw (read16 f, to_z-of_z (half_fits _ f c.requires)) (twice_fits _ f c.requires)

sub_result : tie.Need-overflow_sub-result
sub_result c =
    let f = c.ranges.gap in
    rw (read16 f, to_z-of_z (half_fits _ f c.requires), to_z-of_z (twice_fits _ f c.requires)) (odd_fits _ f c.requires)

returns : tie.Need-returns
returns c =
    let f = c.ranges.gap in
    rw (read16 f, to_z-of_z (half_fits _ f c.requires), to_z-of_z (twice_fits _ f c.requires)) (to_z-of_z {w = w32} (odd_fits _ f c.requires))

pub odd_of_spec : {M : Type 1} → statement M
odd_of_spec = tie.close (tie.spec cast_h cast_result mul_result sub_result returns)
