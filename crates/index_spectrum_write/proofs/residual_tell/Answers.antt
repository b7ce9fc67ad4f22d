-- `index_spectrum_write::residual_tell` meets its contract: a symbol, with an extension at either end. Assumes nothing.
use Rattle.std.proofs.Common.{◌≡◌, true, false, pos, negsuc, nat_abs, ◌+ℤ◌, arith}
use borrow.Author.Tests.{ne_eqb}
use mir.Facts.{to_z-of_z}
use lib.Signed.{le_z}
use Rattle.tree.proofs.Told.{told_done, told_ask, told_within}
use Rattle.silk.specs.IndexSyntax.{residual_said, extension_said, residual}
use Rattle.index_spectrum_write.proofs.residual_tell.Goals as goal

pub ec_enc_icdf8_run-requires-then-z-ge4-clause-icdf : goal.ec_enc_icdf8_run-requires-then-z-ge4-clause-icdf
ec_enc_icdf8_run-requires-then-z-ge4-clause-icdf c =
    let t = c.extension_row_run-then-z-ge4.ensures in
    let x = c.extension_said-then-z-ge4 in
    let e : x.result ≡ extension_said c.args.z = rw (to_z-of_z c.ranges.z) at x.ensures in
    (t.good, t.writable _ (omega (arith, e, c.requires.k_bound.1)))

pub returns-then-z-leminus4 : goal.returns-then-z-leminus4
unfolding residual
returns-then-z-leminus4 c =
    let z = c.args.z in
    let b = c.ec_enc_icdf8_run in
    let l : le_z z (negsuc 3) ≡ true = rw (to_z-of_z c.ranges.z) at c.if-z-leminus4.true in
    let f : 0 ≡ residual_said z = rw l in
    let e : c.extension_said.result ≡ extension_said z = rw (to_z-of_z c.ranges.z) at c.extension_said.ensures in
    told_ask {n = 16} c.residual_row_run-row.ensures.is f c.ec_enc_icdf8_run-q.ensures
    (told_ask c.extension_row_run.ensures.is e b.ensures (told_done b.ensures.core))

pub returns-then-z-ge4 : goal.returns-then-z-ge4
unfolding residual
returns-then-z-ge4 c =
    let z = c.args.z in
    let b = c.ec_enc_icdf8_run-then-z-ge4 in
    let l : le_z z (negsuc 3) ≡ false = rw (to_z-of_z c.ranges.z) at c.if-z-leminus4.false in
    let h : le_z (pos 4) z ≡ true = rw (to_z-of_z c.ranges.z) at c.if-z-ge4.true in
    let f : 8 ≡ residual_said z = rw (l, h) in
    let e : c.extension_said-then-z-ge4.result ≡ extension_said z = rw (to_z-of_z c.ranges.z) at c.extension_said-then-z-ge4.ensures in
    told_ask {n = 16} c.residual_row_run-row.ensures.is f c.ec_enc_icdf8_run-q-then-z-ge4.ensures
    (told_ask c.extension_row_run-then-z-ge4.ensures.is e b.ensures (told_done b.ensures.core))

pub returns-else-z-ge4 : goal.returns-else-z-ge4
unfolding residual
returns-else-z-ge4 c =
    let z = c.args.z in
    let a = c.ec_enc_icdf8_run-else-z-ge4 in
    let v = c.centred_said in
    let l : le_z z (negsuc 3) ≡ false = rw (to_z-of_z c.ranges.z) at c.if-z-leminus4.false in
    let h : le_z (pos 4) z ≡ false = rw (to_z-of_z c.ranges.z) at c.if-z-ge4.false in
    let k : v.result ≡ nat_abs (z +ℤ pos 4) = rw (to_z-of_z c.ranges.z) at v.ensures.0 in
    let f : v.result ≡ residual_said z = rw (l, h) k in
    let p : v.result ≡ 0 → ⊥ = λ e. absurd (omega (arith, v.ensures.1)) in
    let q : v.result ≡ 8 → ⊥ = λ e. absurd (omega (arith, v.ensures.2)) in
    told_within {n = 16} {m = 32} (omega arith)
    (told_ask {n = 0} c.residual_row_run-row.ensures.is f a.ensures
    (rw (ne_eqb _ 0 p, ne_eqb _ 8 q) (told_done a.ensures.core)))
