-- The first refusal, or the read. Assumes nothing.
use Rattle.std.proofs.Common.{◌∙◌}
use Rattle.entcode.specs.Models.{num}
use Rattle.entdec.proofs.Asked.{Asked, asked, refused}
use Rattle.entdec.proofs.ec_dec_uint.Goals as goal

call : (c : goal.In-Ok) → Asked c.args.packet.now c.args.d (num c.args.ft)
call c = asked _ _ (num c.args.ft) c.gate.result c.uint_rule.result c.and.ensures c.gate.ensures c.uint_rule.ensures c.in-Ok.is

pub ec_dec_uint_run-requires-clause-core : goal.ec_dec_uint_run-requires-clause-core
ec_dec_uint_run-requires-clause-core c = (call c).core

pub ec_dec_uint_run-requires-clause-total_bound : goal.ec_dec_uint_run-requires-clause-total_bound
ec_dec_uint_run-requires-clause-total_bound c = (call c).low

pub returns-in-Ok : goal.returns-in-Ok
returns-in-Ok c =
    c.ec_dec_uint_run.ensures.is
    ∙ (asked _ _ (num c.args.ft) c.gate.result c.uint_rule.result c.and.ensures c.gate.ensures c.uint_rule.ensures c.in-Ok.is).reads

pub returns-in-Err : goal.returns-in-Err
returns-in-Err c =
    c.refused.ensures
    ∙ refused _ _ (num c.args.ft) c.gate.result c.uint_rule.result c.and.ensures c.gate.ensures c.uint_rule.ensures c.in-Err.is
