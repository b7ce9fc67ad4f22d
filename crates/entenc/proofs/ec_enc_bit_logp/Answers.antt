-- The first refusal, or the symbol written. Assumes nothing.
use Rattle.entcode.specs.Flat.{out}
use Rattle.entcode.specs.Models.{bit}
use Rattle.entenc.proofs.Said.{said, refused}
use Rattle.entenc.proofs.ec_enc_bit_logp.Goals as goal

pub ec_enc_bit_logp_run-requires : goal.ec_enc_bit_logp_run-requires
ec_enc_bit_logp_run-requires c =
    let k = said (out c.args.buf.now c.args.w) (record { model = bit c.args.lp; value = c.args.v })
    c.gate.result c.bit_rule.result c.and.ensures c.gate.ensures c.bit_rule.ensures c.in-Ok.is in
    record { core = k.core; total_bound = k.low; le_lp = k.asks }

pub returns-in-Ok : goal.returns-in-Ok
returns-in-Ok c =
    let k = said (out c.args.buf.now c.args.w) (record { model = bit c.args.lp; value = c.args.v })
    c.gate.result c.bit_rule.result c.and.ensures c.gate.ensures c.bit_rule.ensures c.in-Ok.is in
    rw c.of.ensures (k.writes c.ec_enc_bit_logp_run.ensures.is)

pub returns-in-Err : goal.returns-in-Err
returns-in-Err c =
    rw c.refused.ensures
    (refused (out c.args.buf.now c.args.w) (record { model = bit c.args.lp; value = c.args.v })
    c.gate.result c.bit_rule.result c.and.ensures c.gate.ensures c.bit_rule.ensures c.in-Err.is)
