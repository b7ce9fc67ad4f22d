-- `lengths_run` meets its contract. Assumes nothing.
use Rattle.std.proofs.Common.{arith}
use Rattle.packet_form.proofs.ReadLaws.{turn, whole}
use Rattle.packet_form.proofs.lengths_run.Goals as goal

pub loop-preserved : goal.loop-preserved
loop-preserved c =
    let r = c.length_run-next.ensures in
    turn _ _ _ _ _ _ _ _ c.loop.invariant c.loop-test.true r.value_value.0 r.value_value.1 r.value_bound.0 r.value_bound.1

pub returns-clause-value_value : goal.returns-clause-value_value
returns-clause-value_value c = whole _ _ _ _ _ _ c.loop.invariant (omega arith)
