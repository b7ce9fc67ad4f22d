-- The first refusal, or the read. Assumes nothing.
use Rattle.std.proofs.Common.{◌∙◌}
use Rattle.entcode.specs.Models.{raw}
use Rattle.entdec.proofs.Asked.{Asked, asked, refused}
use Rattle.entdec.proofs.ec_dec_bits.Goals as goal

call : (c : goal.In-Ok) → Asked c.args.packet.now c.args.d (raw c.args.n)
call c = asked _ _ (raw c.args.n) c.gate.result c.bits_rule.result c.and.ensures c.gate.ensures c.bits_rule.ensures c.in-Ok.is

pub ec_dec_bits_run-requires-clause-core : goal.ec_dec_bits_run-requires-clause-core
ec_dec_bits_run-requires-clause-core c = (call c).core

pub ec_dec_bits_run-requires-clause-total_bound : goal.ec_dec_bits_run-requires-clause-total_bound
ec_dec_bits_run-requires-clause-total_bound c = (call c).low

pub returns-in-Ok : goal.returns-in-Ok
returns-in-Ok c =
    c.ec_dec_bits_run.ensures.is
    ∙ (asked _ _ (raw c.args.n) c.gate.result c.bits_rule.result c.and.ensures c.gate.ensures c.bits_rule.ensures c.in-Ok.is).reads

pub returns-in-Err : goal.returns-in-Err
returns-in-Err c =
    c.refused.ensures
    ∙ refused _ _ (raw c.args.n) c.gate.result c.bits_rule.result c.and.ensures c.gate.ensures c.bits_rule.ensures c.in-Err.is
