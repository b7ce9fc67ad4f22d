-- One number more. Assumes nothing.
use Rattle.std.proofs.Common.{arith, rules, get_or, pos}
use mir.Syntax.{w16}
use mir.Val.{SFits}
use mir.Facts.{to_z-of_z}
use Rattle.numerals.proofs.Put.{put_none, put_then, put_as}
use Rattle.listing.specs.Lines.{spaced}
use Rattle.listing.proofs.LineLaws.{spaced_more}
use Rattle.listing.proofs.put_numbers_run.Goals as goal

pub loop-x-init : goal.loop-x-init
unfolding spaced
loop-x-init c = (search rules, put_none _ _)

pub loop-x-preserved : goal.loop-x-preserved
loop-x-preserved c =
    let xs = c.args.xs.now in
    let i = c.loop-x.x-index in
    let f : SFits w16 (get_or xs i (pos 0)) = search rules in
    let put = rw (to_z-of_z f) at c.put_spaced_run-place.ensures in
    (search rules, put_as (put_then c.loop-x.invariant.1 put) (spaced_more xs i (omega arith)) (omega arith))
