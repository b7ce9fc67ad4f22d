-- `index_filters_write::filters_tell` meets its contract. Assumes nothing.
use Rattle.std.proofs.Common.{ℕ, ℤ, ◌≡◌, ◌-◌, ◌*◌, ◌^◌, ◌<◌, ap, length, pos, nat_abs, get_or, to_z, of_z, w8, arith}
use borrow.Author.Rules.{rules}
use native.Mathlib.Nat.{sub-zero}
use Rattle.tree.proofs.Told.{midway_start, midway_ask, midway_end, told_within}
use Rattle.silk.specs.Inner.Indices.{Upto}
use Rattle.silk.proofs.IndexRows.{subframes_most}
use Rattle.silk.proofs.IndexParts.{upto_fits, abs_kept}
use Rattle.silk.proofs.IndexTold.{filters_told_end, filters_told_next}
use Rattle.index_layout.proofs.FilterSizes.{filters_most}
use Rattle.index_filters_write.proofs.filters_tell.Goals as goal

kept : (p : ℕ) → p < 3 → {z : ℤ} → Upto (8 * 2 ^ p - 1) z → to_z w8 (of_z w8 z) ≡ z
kept p h {z} u = abs_kept w8 z u.most (omega (arith, filters_most p h))

pub loop-k-init : goal.loop-k-init
loop-k-init c = rw (sub-zero c.args.n) (midway_start c.requires.writing.core)

pub bounds-x-k : goal.bounds-x-k
bounds-x-k c = omega (arith, subframes_most c.requires.p_bound.1)

pub overflow_cast-x : goal.overflow_cast-x
overflow_cast-x c =
    let r = c.requires.p_bound in
    let u = r.2 c.loop-k.k (omega arith) in
    rw (kept c.args.p r.0 u) (upto_fits (get_or c.args.x.ltp c.loop-k.k (pos 0)) (omega (arith, filters_most c.args.p r.0)) u)

pub ec_enc_icdf8_run-q-requires-clause-icdf : goal.ec_enc_icdf8_run-q-requires-clause-icdf
ec_enc_icdf8_run-q-requires-clause-icdf c =
    let r = c.requires.p_bound in
    let u = r.2 c.loop-k.k (omega arith) in
    let t = c.filter_row_run-row.ensures in
    rw (kept c.args.p r.0 u) (t.good, t.writable _ (omega (arith, u.most, t.size, t.good.some)))

pub loop-k-preserved : goal.loop-k-preserved
loop-k-preserved c =
    let l = c.loop-k in
    let r = c.requires.p_bound in
    let u = r.2 l.k (omega arith) in
    let g : length c.args.x.ltp ≡ 4 = search rules in
    let s = filters_told_next c.args.n l.k c.args.x c.args.p _ (omega arith) (omega (arith, subframes_most r.1, g)) u in
    midway_ask l.invariant c.filter_row_run-row.ensures.is (ap nat_abs (kept c.args.p r.0 u)) c.ec_enc_icdf8_run-q.ensures s (omega arith)

pub returns : goal.returns
returns c =
    let l = c.loop-k in
    told_within (omega (arith, subframes_most c.requires.p_bound.1))
    (midway_end l.invariant (filters_told_end c.args.n l.k c.args.x c.args.p (omega arith)))
