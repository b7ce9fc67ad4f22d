-- A split, then each half.
use Rattle.pulse_shell_halves.proofs.Halves.{halving_start, halving_next, halving_end}
use Rattle.pulse_shell_halves.proofs.shell_8_run.Goals as goal

pub loop-h-init : goal.loop-h-init
loop-h-init c = halving_start c.decode_split_run-left.ensures.value_le_p c.requires.p_bound.1

pub loop-h-preserved : goal.loop-h-preserved
loop-h-preserved c =
    let a = c.shell_4 in
    halving_next c.loop-h.invariant c.loop-h-test.true c.half_count_run-c.ensures a.auto.places a.ensures.packet a.ensures.placed

pub returns-clause-placed : goal.returns-clause-placed
returns-clause-placed c = halving_end c.loop-h.invariant c.loop-h-test.false c.decode_split_run-left.ensures.along
