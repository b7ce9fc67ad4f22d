-- A digit, and the rest shifted up.
use Rattle.std.proofs.Common.{◌+◌, ◌*◌, ◌%◌, ◌^◌, ap, ◌∙◌, rules}
use mir.Facts.{to_z-of_z}
use mir.Syntax.{w32}
use mir.Val.{SFits}
use Rattle.entcode.specs.Flat.{Out, out}
use Rattle.entcode.proofs.WriterFacts.{at_turn}
use Rattle.entenc_run.proofs.Turns.{turn_is}
use Rattle.entenc_run.proofs.front.turn.Goals as goal

pub returns : goal.returns
returns c =
    let w = c.args.w in
    let f : SFits w32 c.carry_out_run-q.result.rem = search rules in
    let g : SFits w32 c.carry_out_run-q.result.error = search rules in
    rw (to_z-of_z f, to_z-of_z g)
    (ap (λ (q : Out). at_turn q (256 * w.rng) (256 * (w.val % 2 ^ 23)) (w.total + 8)) c.carry_out_run-q.ensures
    ∙ turn_is (out c.args.buf.now w))
