-- The first refusal, or the read. Assumes nothing.
use Rattle.std.proofs.Common.{◌∙◌}
use Rattle.entcode.specs.Models.{tab}
use Rattle.entdec.proofs.Asked.{Asked, asked, refused}
use Rattle.entdec.proofs.icdf_read.Goals as goal

call : (c : goal.In-Ok) → Asked c.args.packet.now c.args.d (tab c.args.scale c.args.table.now)
call c = asked _ _ (tab c.args.scale c.args.table.now)
    c.gate.result c.icdf_rule.result c.and.ensures c.gate.ensures c.icdf_rule.ensures c.in-Ok.is

pub ec_dec_icdf_run-requires-clause-core : goal.ec_dec_icdf_run-requires-clause-core
ec_dec_icdf_run-requires-clause-core c = (call c).core

pub ec_dec_icdf_run-requires-clause-total_bound : goal.ec_dec_icdf_run-requires-clause-total_bound
ec_dec_icdf_run-requires-clause-total_bound c = (call c).low

pub ec_dec_icdf_run-requires-clause-icdf : goal.ec_dec_icdf_run-requires-clause-icdf
ec_dec_icdf_run-requires-clause-icdf c = (call c).readable

pub returns-in-Ok : goal.returns-in-Ok
returns-in-Ok c =
    c.ec_dec_icdf_run.ensures.is
    ∙ (asked _ _ (tab c.args.scale c.args.table.now)
    c.gate.result c.icdf_rule.result c.and.ensures c.gate.ensures c.icdf_rule.ensures c.in-Ok.is).reads

pub returns-in-Err : goal.returns-in-Err
returns-in-Err c =
    c.refused.ensures
    ∙ refused _ _ (tab c.args.scale c.args.table.now)
    c.gate.result c.icdf_rule.result c.and.ensures c.gate.ensures c.icdf_rule.ensures c.in-Err.is
