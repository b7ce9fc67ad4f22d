-- `padding_run` meets its contract. Assumes nothing.
use Rattle.std.proofs.Common.{◌+◌, ◌<◌, length, ◌∙◌, arith}
use Rattle.framing.proofs.Steps.{inside, pad_last}
use Rattle.packet_form.proofs.ReadLaws.{runs_start, runs_turn}
use Rattle.packet_form.proofs.padding_run.Goals as goal

pub loop-n-init : goal.loop-n-init
loop-n-init c = runs_start c.args.s.now c.args.at

pub loop-n-smaller : goal.loop-n-smaller
loop-n-smaller c =
    let s = c.args.s.now in
    let i = c.args.at + c.loop-n.n in
    let l : i < length s = inside s i (omega (arith, c.byte_at.ensures.0, c.loop-n-test.true)) in
    omega arith

pub loop-n-preserved : goal.loop-n-preserved
loop-n-preserved c =
    runs_turn c.args.s.now c.args.at c.loop-n.n c.loop-n.invariant (omega (arith, c.byte_at.ensures.0, c.loop-n-test.true))

pub returns-clause-value_value : goal.returns-clause-value_value
returns-clause-value_value c =
    let i = c.loop-n.invariant in
    let p = pad_last c.args.s.now (c.args.at + c.loop-n.n) (λ e. c.loop-n-test.false (c.byte_at.ensures.0 ∙ e)) in
    (omega (arith, i.bytes, p.1, c.byte_at-2.ensures.0), omega (arith, i.many, p.0))
