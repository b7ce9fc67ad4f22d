-- `index_spectrum_write::spectrum_tell_run` meets its contract. Assumes nothing.
use Rattle.std.proofs.Common.{ℤ, ◌≡◌, ap, length, pos, nat_abs, get_or, to_z, of_z, w8, arith}
use borrow.Author.Rules.{rules}
use Rattle.silk.specs.Inner.Indices.{Upto}
use Rattle.silk.specs.IndexSyntax.{book_of}
use Rattle.silk.proofs.IndexParts.{upto_fits, abs_kept, order_most}
use Rattle.silk.proofs.IndexSteps.{residuals_picked}
use Rattle.silk.proofs.IndexTold.{spectrum_told}
use Rattle.index_spectrum_write.proofs.spectrum_tell_run.Goals as goal

kept : {z : ℤ} → Upto 31 z → to_z w8 (of_z w8 z) ≡ z
kept {z} u = abs_kept w8 z u.most (omega arith)

pub overflow_cast-v : goal.overflow_cast-v
overflow_cast-v c = let u = c.requires.rate.2.index in rw (kept u) (upto_fits (get_or c.args.x.nlsf 0 (pos 0)) (omega arith) u)

pub ec_enc_icdf8_run-q-requires-clause-icdf : goal.ec_enc_icdf8_run-q-requires-clause-icdf
ec_enc_icdf8_run-q-requires-clause-icdf c =
    let u = c.requires.rate.2.index in
    let t = c.first_index_row_run.ensures in
    rw (kept u) (t.good, t.writable _ (omega (arith, u.most)))

pub selectors_run-s-requires : goal.selectors_run-s-requires
selectors_run-s-requires c = let u = c.requires.rate.2.index in rw (kept u) (omega (arith, u.most))

pub residuals_tell-requires-clause-rate : goal.residuals_tell-requires-clause-rate
residuals_tell-requires-clause-rate c =
    let s : length c.selectors_run-s.result ≡ 8 = search rules in
    let o = c.order_of.ensures in
    (c.requires.rate.0, omega (arith, o, order_most c.args.khz), omega (arith, o, order_most c.args.khz))

pub residuals_tell-requires-clause-by_index : goal.residuals_tell-requires-clause-by_index
residuals_tell-requires-clause-by_index c = λ k p q. c.requires.rate.2.residuals k p (omega (arith, c.order_of.ensures))

pub returns : goal.returns
returns c =
    let x = c.args.x in
    let s = c.selectors_run-s in
    let u = c.requires.rate.2.index in
    let g : length x.nlsf ≡ 17 = search rules in
    let e = residuals_picked c.args.khz s.result _ (book_of c.args.khz).order 0 x (λ j l. s.ensures j (omega arith)) in
    spectrum_told {n = 512} c.args.khz c.args.signal x g u
    c.first_index_row_run.ensures.is (ap nat_abs (kept u)) c.ec_enc_icdf8_run-q.ensures
    (rw (c.order_of.ensures, e) at c.residuals_tell.ensures)
