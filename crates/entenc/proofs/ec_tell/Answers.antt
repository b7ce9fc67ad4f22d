-- A sound state's total is at least the bit length of its range. Assumes nothing.
use Rattle.std.proofs.Common.{ℕ, ◌-◌, ◌∙◌, refl, sym, ap, arith}
use Rattle.bitlen.proofs.LengthLaws.{length_most}
use Rattle.refusals.specs.Inner.{number_of, refusal_of}
use Rattle.refusals.proofs.RefusalLaws.{number_refuses}
use Rattle.entcode.specs.Cuts.{account}
use Rattle.entcode.specs.Flat.{out}
use Rattle.entcode.proofs.WritingLaws.{gate_runs, tell_takes, tell_refuses}
use Rattle.entenc.proofs.ec_tell.Goals as goal

pub overflow_sub-w : goal.overflow_sub-w
overflow_sub-w c =
    let g = gate_runs (out c.args.buf.now c.args.w) 0 (sym (ap refusal_of c.in-Ok.is) ∙ c.gate.ensures) refl in
    omega (arith, g.sound.least, length_most c.args.w.rng, c.ec_ilog.ensures)

pub returns-in-Ok : goal.returns-in-Ok
unfolding account
returns-in-Ok c =
    rw c.of.ensures
    (tell_takes (out c.args.buf.now c.args.w) 0 (sym (ap refusal_of c.in-Ok.is) ∙ c.gate.ensures) _ refl
    (ap (λ (n : ℕ). c.args.w.total - n) c.ec_ilog.ensures))

pub returns-in-Err : goal.returns-in-Err
returns-in-Err c =
    let n = c.in-Err.refusal in
    rw c.refused.ensures
    (tell_refuses (out c.args.buf.now c.args.w) (number_of n) (sym (ap refusal_of c.in-Err.is) ∙ c.gate.ensures) (number_refuses n))
