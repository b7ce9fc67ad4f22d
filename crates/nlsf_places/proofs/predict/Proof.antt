-- `predict` meets its contract. Assumes nothing.
use mathlib.Core.Path.{◌≡◌}
use native.Mathlib.Omega.{arith}
use borrow.Author.Rules.{rules}
use lib.Dec.{lit<}
use lib.IntN.{pos, ◌*ℤ◌}
use mir.Syntax.{w32}
use mir.Val.{SFits, to_z, of_z}
use mir.Facts.{to_z-of_z, to_z_pos}
use Rattle.ints.proofs.Widths.{shr_fits, times_fits}
use Rattle.spectrum.specs.Residuals.{predicted}
use Rattle.nlsf_places.proofs.predict.Statement.{statement}
use Rattle.nlsf_places.proofs.predict.Tie as tie

product : (c : tie.Start) → SFits w32 (c.args.r *ℤ pos c.args.p)
product c = times_fits c.args.r c.args.p 29200 256 c.requires.0 c.requires.1 (omega arith) (lit< tt)

-- what the machine multiplies
reads : (c : tie.Start) → to_z w32 (of_z w32 c.args.r) *ℤ to_z w32 c.args.p ≡ c.args.r *ℤ pos c.args.p
reads c = rw (to_z-of_z c.ranges.r, to_z_pos w32 {n = c.args.p} (omega arith))

mul_result : tie.Need-overflow_mul-result
mul_result c = rw (reads c) (product c)

returns : tie.Need-returns
unfolding predicted
returns c = rw (reads c, to_z-of_z (product c)) (to_z-of_z {w = w32} (shr_fits (c.args.r *ℤ pos c.args.p) 256 (product c)))

pub predict_spec : {M : Type 1} → statement M
predict_spec = tie.close (tie.spec (λ c. search rules) mul_result returns)
