-- The first refusal, or the symbol written. Assumes nothing.
use Rattle.entcode.specs.Flat.{out}
use Rattle.entcode.specs.Models.{tab}
use Rattle.entenc.proofs.Said.{said, refused}
use Rattle.entenc.proofs.ec_enc_icdf.Goals as goal

pub ec_enc_icdf_run-requires : goal.ec_enc_icdf_run-requires
ec_enc_icdf_run-requires c =
    let k = said (out c.args.buf.now c.args.w) (record { model = tab c.args.scale c.args.table.now; value = c.args.k })
    c.gate.result c.symbol_rule.result c.and.ensures c.gate.ensures c.symbol_rule.ensures c.in-Ok.is in
    record { core = k.core; total_bound = k.low; icdf = k.asks }

pub returns-in-Ok : goal.returns-in-Ok
returns-in-Ok c =
    let k = said (out c.args.buf.now c.args.w) (record { model = tab c.args.scale c.args.table.now; value = c.args.k })
    c.gate.result c.symbol_rule.result c.and.ensures c.gate.ensures c.symbol_rule.ensures c.in-Ok.is in
    rw c.of.ensures (k.writes c.ec_enc_icdf_run.ensures.is)

pub returns-in-Err : goal.returns-in-Err
returns-in-Err c =
    rw c.refused.ensures
    (refused (out c.args.buf.now c.args.w) (record { model = tab c.args.scale c.args.table.now; value = c.args.k })
    c.gate.result c.symbol_rule.result c.and.ensures c.gate.ensures c.symbol_rule.ensures c.in-Err.is)
