-- The state decides the refusal, and without one it is finished. Assumes nothing.
use Rattle.std.proofs.Common.{◌∙◌, refl, sym, ap}
use Rattle.refusals.specs.Inner.{number_of, refusal_of}
use Rattle.refusals.proofs.RefusalLaws.{number_refuses}
use Rattle.entcode.specs.Flat.{out}
use Rattle.entcode.proofs.WritingLaws.{gate_runs, done_takes, done_refuses}
use Rattle.entenc.proofs.ec_enc_done.Goals as goal

pub ec_enc_done_run-requires : goal.ec_enc_done_run-requires
ec_enc_done_run-requires c =
    (gate_runs (out c.args.buf.now c.args.w) 0 (sym (ap refusal_of c.in-Ok.is) ∙ c.gate.ensures) refl).core

pub returns-in-Ok : goal.returns-in-Ok
returns-in-Ok c =
    rw c.of.ensures
    (done_takes (out c.args.buf.now c.args.w) 0 (sym (ap refusal_of c.in-Ok.is) ∙ c.gate.ensures) _ refl c.ec_enc_done_run.ensures)

pub returns-in-Err : goal.returns-in-Err
returns-in-Err c =
    let n = c.in-Err.refusal in
    rw c.refused.ensures
    (done_refuses (out c.args.buf.now c.args.w) (number_of n) (sym (ap refusal_of c.in-Err.is) ∙ c.gate.ensures) (number_refuses n))
