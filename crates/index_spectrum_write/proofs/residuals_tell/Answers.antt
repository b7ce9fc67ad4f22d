-- `index_spectrum_write::residuals_tell` meets its contract. Assumes nothing.
use Rattle.std.proofs.Common.{◌≡◌, ◌≤◌, ◌+◌, ◌^◌, length, pos, get_or, w8, arith}
use borrow.Author.Rules.{rules}
use native.Mathlib.Nat.{sub-zero}
use Rattle.entcode.specs.Flat.{out}
use Rattle.sheet.specs.Directory.{residual_row}
use Rattle.tree.specs.Inner.Told.{Told}
use Rattle.tree.proofs.Told.{midway_start, midway_next, midway_end, told_within}
use Rattle.silk.specs.IndexSyntax.{residual_pick, residual}
use Rattle.silk.proofs.IndexRows.{rate_most}
use Rattle.silk.proofs.IndexParts.{abs_kept}
use Rattle.silk.proofs.IndexTold.{residuals_told_end, residuals_told_next}
use Rattle.index_spectrum_write.proofs.residuals_tell.Goals as goal

pub overflow_mul-base : goal.overflow_mul-base
overflow_mul-base c = omega (arith, rate_most c.requires.rate.0)

pub loop-i-init : goal.loop-i-init
loop-i-init c = rw (sub-zero c.args.n) (midway_start c.requires.writing.core)

pub residual_pick_run-k-requires : goal.residual_pick_run-k-requires
residual_pick_run-k-requires c = omega (arith, c.requires.rate.1)

pub bounds-x-i : goal.bounds-x-i
bounds-x-i c = omega (arith, c.requires.rate.2)

pub overflow_add-base : goal.overflow_add-base
overflow_add-base c = omega (arith, rate_most c.requires.rate.0, c.residual_pick_run-k.ensures)

pub residual_tell-q-requires-clause-writing : goal.residual_tell-q-requires-clause-writing
residual_tell-q-requires-clause-writing c =
    let l = c.loop-i in
    let w = c.requires.writing in
    let few : l.q.total ≤ 2 ^ 29 = omega (arith, w.few, l.invariant.most, c.requires.rate.2) in
    record { core = l.invariant.core; few = few; rows = w.rows }

pub residual_tell-q-requires-clause-k_bound : goal.residual_tell-q-requires-clause-k_bound
residual_tell-q-requires-clause-k_bound c =
    let u = c.requires.by_index (c.loop-i.i + 1) (omega arith) (omega arith) in
    (omega (arith, rate_most c.requires.rate.0, c.residual_pick_run-k.ensures), rw (abs_kept w8 _ u (omega arith)) u)

pub loop-i-preserved : goal.loop-i-preserved
loop-i-preserved c =
    let l = c.loop-i in
    let a = c.residual_tell-q in
    let v = get_or c.args.x.nlsf (l.i + 1) (pos 0) in
    let u = c.requires.by_index (l.i + 1) (omega arith) (omega arith) in
    let m = c.args.selectors.now in
    let t : Told (out l.buf l.q) v (residual (residual_row c.args.khz (residual_pick m l.i))) 32 (out a.new.buf a.result) =
    rw (c.residual_pick_run-k.ensures, abs_kept w8 v u (omega arith)) at a.ensures in
    let r = c.requires.rate in
    let g : length c.args.x.nlsf ≡ 17 = search rules in
    let s = residuals_told_next c.args.n l.i c.args.x c.args.khz m r.0 (omega arith) (omega (arith, g, r.2)) u in
    midway_next l.invariant t s (omega arith)

pub returns : goal.returns
returns c =
    let l = c.loop-i in
    told_within (omega (arith, c.requires.rate.2))
    (midway_end l.invariant (residuals_told_end c.args.n l.i c.args.x c.args.khz c.args.selectors.now (omega arith)))
