-- `few_run` meets its contract. Assumes nothing.
use Rattle.std.proofs.Common.{arith}
use Rattle.packet_places.proofs.TurnLaws.{turn_start, turn_near, turn_more, turn_end}
use Rattle.packet_places.proofs.few_run.Goals as goal

pub loop-k-init : goal.loop-k-init
loop-k-init c = turn_start c.requires.0

pub returns-then-f-k : goal.returns-then-f-k
returns-then-f-k c = turn_end c.loop-k.p c.requires.0 c.loop-k.invariant c.if-f-k.true

pub overflow_cast-p : goal.overflow_cast-p
overflow_cast-p c = omega (arith, (turn_near c.requires.0 c.loop-k.invariant (omega arith)).0)

pub overflow_add-place : goal.overflow_add-place
overflow_add-place c =
    omega (arith, (turn_near c.requires.0 c.loop-k.invariant (omega arith)).0, c.next_run-next.ensures.small)

pub loop-k-preserved : goal.loop-k-preserved
loop-k-preserved c = turn_more c.requires.0 (omega arith) c.loop-k.invariant (omega arith) c.next_run-next.ensures

pub returns : goal.returns
returns c = turn_end c.loop-k.p c.requires.0 c.loop-k.invariant (omega arith)
