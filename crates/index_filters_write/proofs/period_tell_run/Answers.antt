-- `index_filters_write::period_tell_run` meets its contract: the period, then its filters. Assumes nothing.
use Rattle.std.proofs.Common.{ℤ, ◌≡◌, sym, ap, subst, ◌∙◌, pos, nat_abs, to_z, of_z, w8, arith}
use Rattle.entcode.specs.Flat.{out}
use Rattle.tree.specs.Inner.Told.{Told}
use Rattle.tree.proofs.Told.{told_ask}
use Rattle.silk.specs.declared.Indices.{Indices}
use Rattle.silk.specs.Inner.Indices.{Upto}
use Rattle.silk.specs.IndexSyntax.{filters, period}
use Rattle.silk.proofs.IndexParts.{upto_fits, abs_kept}
use Rattle.silk.proofs.IndexSays.{period_same}
use Rattle.index_filters_write.proofs.period_tell_run.Goals as goal

kept : {z : ℤ} → Upto 2 z → to_z w8 (of_z w8 z) ≡ z
kept {z} u = abs_kept w8 z u.most (omega arith)

pub overflow_cast-p : goal.overflow_cast-p
overflow_cast-p c = let u = c.requires.subframes.1 in rw (kept u) (upto_fits c.args.x.period (omega arith) u)

pub ec_enc_icdf8_run-q-requires-clause-icdf : goal.ec_enc_icdf8_run-q-requires-clause-icdf
ec_enc_icdf8_run-q-requires-clause-icdf c =
    let u = c.requires.subframes.1 in
    let t = c.period_row_run.ensures in
    rw (kept u) (t.good, t.writable _ (omega (arith, u.most)))

pub filters_tell-requires-clause-p_bound : goal.filters_tell-requires-clause-p_bound
filters_tell-requires-clause-p_bound c =
    let u = c.requires.subframes.1 in
    rw (kept u) (omega (arith, u.most), c.requires.subframes.0, c.requires.by_index)

pub returns : goal.returns
unfolding period
returns c =
    let a = c.ec_enc_icdf8_run-q in
    let f = c.filters_tell in
    let x = c.args.x in
    let k = kept c.requires.subframes.1 in
    let p = nat_abs (to_z w8 (of_z w8 x.period)) in
    let e = c.requires.subframes.1.least ∙ ap (λ (v : ℤ). pos (nat_abs v)) (sym k) in
    told_ask c.period_row_run.ensures.is (ap nat_abs k) a.ensures
    (subst (λ (y : Indices). Told (out a.new.buf a.result) x (filters p c.args.subframes 0 y) 64 (out f.new.buf f.result))
    (sym (period_same x p e)) f.ensures)
