-- `index_lag_write::absolute_lag_tell` meets its contract: a high and a low part. Assumes nothing.
use Rattle.std.proofs.Common.{ℕ, ℤ, ◌≡◌, ◌-◌, ◌*◌, ◌/◌, ◌%◌, ap, nat_abs, to_z, of_z, arith}
use mir.Syntax.{w16}
use Rattle.tree.proofs.Told.{told_done, told_ask}
use Rattle.silk.specs.Inner.Indices.{Rate, Upto}
use Rattle.silk.specs.IndexSyntax.{absolute_lag}
use Rattle.silk.proofs.IndexRows.{rate_most}
use Rattle.silk.proofs.IndexParts.{upto_fits, abs_kept}
use Rattle.silk.proofs.IndexSays.{high_part, low_part}
use Rattle.index_lag_write.proofs.absolute_lag_tell.Goals as goal

kept : {khz : ℕ} {z : ℤ} → Rate khz → Upto (16 * khz - 1) z → to_z w16 (of_z w16 z) ≡ z
kept {khz} {z} r u = abs_kept w16 z u.most (omega (arith, rate_most r))

pub overflow_cast-value : goal.overflow_cast-value
overflow_cast-value c = let r = c.requires.rate in rw (kept r.0 r.1) (upto_fits c.args.x.lag (omega (arith, rate_most r.0)) r.1)

pub nonzero_div-value : goal.nonzero_div-value
nonzero_div-value c = omega (arith, low_part c.args.khz 0 c.requires.rate.0)

pub nonzero_rem-value : goal.nonzero_rem-value
nonzero_rem-value c = omega (arith, low_part c.args.khz 0 c.requires.rate.0)

pub ec_enc_icdf8_run-h-requires-clause-icdf : goal.ec_enc_icdf8_run-h-requires-clause-icdf
ec_enc_icdf8_run-h-requires-clause-icdf c =
    let r = c.requires.rate in
    let t = c.lag_row_run.ensures in
    rw (kept r.0 r.1) (t.good, t.writable _ (high_part c.args.khz _ r.0 r.1.most))

pub ec_enc_icdf8_run-requires-clause-icdf : goal.ec_enc_icdf8_run-requires-clause-icdf
ec_enc_icdf8_run-requires-clause-icdf c =
    let t = c.lag_low_row_run.ensures in
    (t.good, t.writable _ (low_part c.args.khz _ c.requires.rate.0))

pub returns : goal.returns
unfolding absolute_lag
returns c =
    let h = c.ec_enc_icdf8_run-h in
    let l = c.ec_enc_icdf8_run in
    let e = ap nat_abs (kept c.requires.rate.0 c.requires.rate.1) in
    told_ask c.lag_row_run.ensures.is (ap (λ (v : ℕ). v / (c.args.khz / 2)) e) h.ensures
    (told_ask c.lag_low_row_run.ensures.is (ap (λ (v : ℕ). v % (c.args.khz / 2)) e) l.ensures (told_done l.ensures.core))
