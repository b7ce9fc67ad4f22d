-- `index_lag_write::contour_tell_run` meets its contract. Assumes nothing.
use Rattle.std.proofs.Common.{ℕ, ℤ, ◌≡◌, ◌-◌, ap, nat_abs, to_z, of_z, w8, arith}
use Rattle.tree.proofs.Told.{told_done, told_ask}
use Rattle.silk.specs.Inner.Indices.{Rate, Subframes, contour_size, Upto}
use Rattle.silk.specs.IndexSyntax.{contour}
use Rattle.silk.proofs.IndexRows.{contour_within}
use Rattle.silk.proofs.IndexParts.{upto_fits, abs_kept}
use Rattle.index_lag_write.proofs.contour_tell_run.Goals as goal

kept : {khz subframes : ℕ} {z : ℤ} → Rate khz → Subframes subframes → Upto (contour_size khz subframes - 1) z → to_z w8 (of_z w8 z) ≡ z
kept {khz} {subframes} {z} r f u = abs_kept w8 z u.most (omega (arith, (contour_within khz subframes r f).1))

pub overflow_cast-x : goal.overflow_cast-x
overflow_cast-x c =
    let r = c.requires.rate in
    rw (kept r.0 r.1 r.2) (upto_fits c.args.x.contour (omega (arith, (contour_within c.args.khz c.args.subframes r.0 r.1).1)) r.2)

pub ec_enc_icdf8_run-requires-clause-icdf : goal.ec_enc_icdf8_run-requires-clause-icdf
ec_enc_icdf8_run-requires-clause-icdf c =
    let r = c.requires.rate in
    let t = c.contour_row_run.ensures in
    rw (kept r.0 r.1 r.2) (t.good, t.writable _ (omega (arith, r.2.most, t.size, t.good.some)))

pub returns : goal.returns
unfolding contour
returns c =
    let r = c.requires.rate in
    let a = c.ec_enc_icdf8_run in
    told_ask c.contour_row_run.ensures.is (ap nat_abs (kept r.0 r.1 r.2)) a.ensures (told_done a.ensures.core)
