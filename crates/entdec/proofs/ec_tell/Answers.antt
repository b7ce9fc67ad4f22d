-- A sound total is at least the range's bit length. Assumes nothing.
use Rattle.std.proofs.Common.{ℕ, ◌-◌, ◌∙◌, sym, ap, arith}
use Rattle.bitlen.proofs.LengthLaws.{length_most}
use Rattle.refusals.specs.Inner.{number_of, refusal_of}
use Rattle.refusals.proofs.RefusalLaws.{number_refuses}
use Rattle.entcode.specs.Cuts.{account}
use Rattle.entcode.specs.Reading.{gives, refuses, dec_tell}
use Rattle.entcode.proofs.ReadingLaws.{gate_open, answered_ok, answered_no}
use Rattle.entdec.proofs.ec_tell.Goals as goal

pub overflow_sub-d : goal.overflow_sub-d
overflow_sub-d c =
    let o = gate_open c.args.packet.now c.args.d (sym c.gate.ensures ∙ ap refusal_of c.in-Ok.is) in
    omega (arith, o.sound.least, length_most c.args.d.rng, c.ec_ilog.ensures)

pub returns-in-Ok : goal.returns-in-Ok
unfolding dec_tell account
returns-in-Ok c =
    let d = c.args.d in
    c.of.ensures
    ∙ ap (λ (n : ℕ). gives (d.total - n) d) c.ec_ilog.ensures
    ∙ answered_ok _ d _ d (sym c.gate.ensures ∙ ap refusal_of c.in-Ok.is)

pub returns-in-Err : goal.returns-in-Err
unfolding dec_tell
returns-in-Err c =
    let d = c.args.d in
    let e = sym c.gate.ensures ∙ ap refusal_of c.in-Err.is in
    c.refused.ensures
    ∙ ap (λ (n : ℕ). refuses n d) (sym e)
    ∙ answered_no _ d _ d (λ z. number_refuses c.in-Err.refusal (sym e ∙ z))
