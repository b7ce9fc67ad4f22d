-- The first refusal, or the read. Assumes nothing.
use Rattle.std.proofs.Common.{◌∙◌}
use Rattle.entcode.specs.Models.{bit}
use Rattle.entdec.proofs.Asked.{Asked, asked, refused}
use Rattle.entdec.proofs.ec_dec_bit_logp.Goals as goal

call : (c : goal.In-Ok) → Asked c.args.packet.now c.args.d (bit c.args.lp)
call c = asked _ _ (bit c.args.lp) c.gate.result c.bit_rule.result c.and.ensures c.gate.ensures c.bit_rule.ensures c.in-Ok.is

pub ec_dec_bit_logp_run-requires-clause-core : goal.ec_dec_bit_logp_run-requires-clause-core
ec_dec_bit_logp_run-requires-clause-core c = (call c).core

pub ec_dec_bit_logp_run-requires-clause-total_bound : goal.ec_dec_bit_logp_run-requires-clause-total_bound
ec_dec_bit_logp_run-requires-clause-total_bound c = (call c).low

pub returns-in-Ok : goal.returns-in-Ok
returns-in-Ok c =
    c.ec_dec_bit_logp_run.ensures.is
    ∙ (asked _ _ (bit c.args.lp) c.gate.result c.bit_rule.result c.and.ensures c.gate.ensures c.bit_rule.ensures c.in-Ok.is).reads

pub returns-in-Err : goal.returns-in-Err
returns-in-Err c =
    c.refused.ensures
    ∙ refused _ _ (bit c.args.lp) c.gate.result c.bit_rule.result c.and.ensures c.gate.ensures c.bit_rule.ensures c.in-Err.is
