-- Nothing for no pulses, else a split, then each half.
use Rattle.std.proofs.Common.{length}
use Rattle.pulse_shell_empty.proofs.Empty.{no_pulses}
use Rattle.pulse_shell_halves.proofs.Halves.{halving_start, halving_next, halving_end}
use Rattle.pulse_shell_read.proofs.silk_shell_decoder_run.Goals as goal

pub returns-then-p-eq0-clause-placed : goal.returns-then-p-eq0-clause-placed
returns-then-p-eq0-clause-placed c =
    rw c.clear.ensures (no_pulses c.args.p (length c.args.places.now) c.if-p-eq0.true c.requires.p_bound.1 c.args.r.now.core)

pub loop-h-init : goal.loop-h-init
loop-h-init c = halving_start c.decode_split_run-left.ensures.value_le_p c.requires.p_bound.1

pub loop-h-preserved : goal.loop-h-preserved
loop-h-preserved c =
    let a = c.shell_8_run in
    halving_next c.loop-h.invariant c.loop-h-test.true c.half_count_run-c.ensures a.auto.places a.ensures.packet a.ensures.placed

pub returns-clause-placed : goal.returns-clause-placed
returns-clause-placed c = halving_end c.loop-h.invariant c.loop-h-test.false c.decode_split_run-left.ensures.along
