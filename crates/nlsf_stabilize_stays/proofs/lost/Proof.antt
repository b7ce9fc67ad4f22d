-- `lost` meets its contract. Assumes nothing.
use mir.Facts.{to_z-of_z}
use Rattle.spectrum.proofs.Widened.{wide, read16, more_fits}
use Rattle.nlsf_stabilize_stays.proofs.lost.Statement.{statement}
use Rattle.nlsf_stabilize_stays.proofs.lost.Tie as tie

cast_result : tie.Need-overflow_cast-result
cast_result c = rw (to_z-of_z c.ranges.gap) (wide c.ranges.gap)

add_result : tie.Need-overflow_add-result
add_result c = let f = c.ranges in rw (to_z-of_z f.p, read16 f.gap) (more_fits c.args.p c.args.gap c.requires f.gap)

returns : tie.Need-returns
returns c =
    let f = c.ranges in
    rw (to_z-of_z f.p, read16 f.gap, to_z-of_z f.gap, to_z-of_z f.x, to_z-of_z (more_fits c.args.p c.args.gap c.requires f.gap))

pub lost_spec : {M : Type 1} → statement M
lost_spec = tie.close (tie.spec cast_result add_result returns)
