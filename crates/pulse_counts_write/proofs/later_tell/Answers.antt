-- One more symbol behind k low bits.
use Rattle.std.proofs.Common.{◌+◌, ◌-◌, arith}
use Rattle.tree.proofs.Told.{midway_asked, midway_end, told_within}
use Rattle.silk.proofs.PulseRowLaws.{later_in, later}
use Rattle.silk.proofs.PulseTold.{said_writable, lows_left, lows_said}
use Rattle.pulse_counts_write.proofs.later_tell.Goals as goal

pub ec_enc_icdf_run-w-requires-clause-icdf : goal.ec_enc_icdf_run-w-requires-clause-icdf
ec_enc_icdf_run-w-requires-clause-icdf c =
    let j = c.loop-k.k + 1 in
    let e = later_in c.args.rows.now j c.later_at-at.result c.requires.pulse_rows c.later_at-at.ensures in
    let p = c.requires.sum_bound in
    rw (e, c.count_said-v.ensures)
    ((later j).good, said_writable (record { count = c.args.sum; lows = c.args.lows }) j p.0 p.1)

pub loop-k-preserved : goal.loop-k-preserved
loop-k-preserved c =
    let l = c.loop-k in
    let e = later_in c.args.rows.now (l.k + 1) c.later_at-at.result c.requires.pulse_rows c.later_at-at.ensures in
    midway_asked (rw (lows_left (record { count = c.args.sum; lows = c.args.lows }) 10 l.k (omega arith) c.loop-k-test.true) at l.invariant) e
    c.count_said-v.ensures
    c.ec_enc_icdf_run-w.ensures
    (omega arith)

pub returns : goal.returns
returns c =
    let l = c.loop-k in
    told_within (omega arith)
    (midway_end l.invariant
    (lows_said (record { count = c.args.sum; lows = c.args.lows }) (10 - l.k) l.k (omega arith) c.requires.sum_bound.0))
