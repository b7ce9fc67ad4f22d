-- `index_gains_write::first_gain_tell` meets its contract: one symbol against the frame before, or two by themselves. Assumes nothing.
use Rattle.std.proofs.Common.{ℕ, ℤ, ◌≡◌, ◌≤◌, ◌/◌, ◌%◌, ap, pos, nat_abs, get_or, to_z, of_z, w8, arith}
use borrow.Author.Tests.{eq-eqb, ne_eqb}
use Rattle.tree.proofs.Told.{told_done, told_ask, told_within}
use Rattle.silk.specs.IndexSyntax.{first_gain}
use Rattle.silk.specs.Inner.Indices.{Upto, first_most}
use Rattle.silk.proofs.IndexParts.{first_most_lem, upto_fits, abs_kept}
use Rattle.index_gains_write.proofs.first_gain_tell.Goals as goal

most : (mode : ℕ) {z : ℤ} → Upto (first_most mode) z → nat_abs z ≤ 63
most mode u = omega (arith, u.most, first_most_lem mode)

kept : (mode : ℕ) {z : ℤ} → Upto (first_most mode) z → to_z w8 (of_z w8 z) ≡ z
kept mode {z} u = abs_kept w8 z (most mode u) (omega arith)

pub overflow_cast-gain : goal.overflow_cast-gain
overflow_cast-gain c =
    let u = c.requires.signal_bound.1 in
    rw (kept c.args.mode u) (upto_fits (get_or c.args.x.gains 0 (pos 0)) (omega (arith, first_most_lem c.args.mode)) u)

pub ec_enc_icdf8_run-requires-clause-icdf : goal.ec_enc_icdf8_run-requires-clause-icdf
ec_enc_icdf8_run-requires-clause-icdf c =
    let u = c.requires.signal_bound.1 in
    let t = c.delta_gain_row_run.ensures in
    let l : nat_abs (get_or c.args.x.gains 0 (pos 0)) ≤ 40 = rw (eq-eqb _ _ c.if-mode-eq2.true) at u.most in
    rw (kept c.args.mode u) (t.good, t.writable _ (omega arith))

pub returns-then-mode-eq2 : goal.returns-then-mode-eq2
unfolding first_gain
returns-then-mode-eq2 c =
    let a = c.ec_enc_icdf8_run in
    rw (eq-eqb _ _ c.if-mode-eq2.true)
    (told_within {n = 16} {m = 32} (omega arith)
    (told_ask c.delta_gain_row_run.ensures.is (ap nat_abs (kept c.args.mode c.requires.signal_bound.1)) a.ensures
    (told_done a.ensures.core)))

pub ec_enc_icdf8_run-h-requires-clause-icdf : goal.ec_enc_icdf8_run-h-requires-clause-icdf
ec_enc_icdf8_run-h-requires-clause-icdf c =
    let u = c.requires.signal_bound.1 in
    let t = c.gain_row_run.ensures in
    rw (kept c.args.mode u) (t.good, t.writable _ (omega (arith, most c.args.mode u)))

pub returns-else-mode-eq2 : goal.returns-else-mode-eq2
unfolding first_gain
returns-else-mode-eq2 c =
    let h = c.ec_enc_icdf8_run-h in
    let l = c.ec_enc_icdf8_run-else-mode-eq2 in
    let e = ap nat_abs (kept c.args.mode c.requires.signal_bound.1) in
    rw (ne_eqb _ _ c.if-mode-eq2.false)
    (told_ask c.gain_row_run.ensures.is (ap (λ (g : ℕ). g / 8) e) h.ensures
    (told_ask c.gain_low_row_run.ensures.is (ap (λ (g : ℕ). g % 8) e) l.ensures (told_done l.ensures.core)))
