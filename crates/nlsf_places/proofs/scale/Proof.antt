-- `scale` meets its contract. Assumes nothing.
use mathlib.Core.Path.{◌≡◌}
use native.Mathlib.Omega.{arith}
use borrow.Author.Rules.{rules, sfits_of}
use lib.Dec.{lit<}
use lib.IntN.{pos, ◌*ℤ◌}
use mir.Syntax.{w32}
use mir.Val.{SFits, to_z, of_z}
use mir.Facts.{to_z-of_z, to_z_pos}
use Rattle.ints.proofs.Widths.{shr_fits, times_fits}
use Rattle.spectrum.proofs.ResidualBounds.{nudged_within}
use Rattle.spectrum.specs.Residuals.{nudged, scaled}
use Rattle.nlsf_places.proofs.scale.Statement.{statement}
use Rattle.nlsf_places.proofs.scale.Tie as tie

product : (c : tie.Start) → SFits w32 (nudged c.args.x *ℤ pos c.args.step)
product c =
    let n = nudged_within c.args.x c.requires.0 in
    times_fits (nudged c.args.x) c.args.step 10138 11796 n.0 n.1 c.requires.1 (lit< tt)

-- what the machine multiplies
reads : (c : tie.After-nudge)
    → to_z w32 (of_z w32 c.nudge.result) *ℤ to_z w32 c.args.step ≡ nudged c.args.x *ℤ pos c.args.step
reads c =
    let e : c.nudge.result ≡ nudged c.args.x = rw (to_z-of_z c.ranges.x) at c.nudge.ensures in
    rw (to_z-of_z {w = w32} (sfits_of c.nudge.type_inv), e, to_z_pos w32 {n = c.args.step} (omega arith))

mul_result : tie.Need-overflow_mul-result
mul_result c = rw (reads c) (product c.before)

returns : tie.Need-returns
unfolding scaled
returns c =
    let p = product c.before in
    rw (reads c, to_z-of_z p) (to_z-of_z {w = w32} (shr_fits (nudged c.args.x *ℤ pos c.args.step) 65536 p))

pub scale_spec : {M : Type 1} → statement M
scale_spec = tie.close (tie.spec (λ c κs. search rules) (λ c. search rules) mul_result returns)
