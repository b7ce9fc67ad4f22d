-- `index_gains_write::more_gains_tell` meets its contract. Assumes nothing.
use Rattle.std.proofs.Common.{ℤ, ◌≡◌, ap, length, pos, nat_abs, get_or, to_z, of_z, w8, arith}
use borrow.Author.Rules.{rules}
use Rattle.tree.proofs.Told.{midway_ask, midway_end, told_within}
use Rattle.silk.specs.Inner.Indices.{Upto}
use Rattle.silk.proofs.IndexRows.{subframes_most, subframes_least}
use Rattle.silk.proofs.IndexParts.{upto_fits, abs_kept}
use Rattle.silk.proofs.IndexTold.{gains_told_end, gains_told_next}
use Rattle.index_gains_write.proofs.more_gains_tell.Goals as goal

kept : {z : ℤ} → Upto 40 z → to_z w8 (of_z w8 z) ≡ z
kept {z} u = abs_kept w8 z u.most (omega arith)

pub bounds-x-k : goal.bounds-x-k
bounds-x-k c = omega (arith, subframes_most c.requires.subframes.0)

pub overflow_cast-x : goal.overflow_cast-x
overflow_cast-x c =
    let u = c.requires.subframes.1 c.loop-k.k (omega arith) (omega arith) in
    rw (kept u) (upto_fits (get_or c.args.x.gains c.loop-k.k (pos 0)) (omega arith) u)

pub ec_enc_icdf8_run-q-requires-clause-icdf : goal.ec_enc_icdf8_run-q-requires-clause-icdf
ec_enc_icdf8_run-q-requires-clause-icdf c =
    let u = c.requires.subframes.1 c.loop-k.k (omega arith) (omega arith) in
    let t = c.delta_gain_row_run.ensures in
    rw (kept u) (t.good, t.writable _ (omega (arith, u.most)))

pub loop-k-preserved : goal.loop-k-preserved
loop-k-preserved c =
    let l = c.loop-k in
    let u = c.requires.subframes.1 l.k (omega arith) (omega arith) in
    let g : length c.args.x.gains ≡ 4 = search rules in
    let s = gains_told_next c.args.n l.k c.args.x 40 (omega arith) (omega (arith, subframes_most c.requires.subframes.0, g)) u in
    midway_ask l.invariant c.delta_gain_row_run.ensures.is (ap nat_abs (kept u)) c.ec_enc_icdf8_run-q.ensures s (omega arith)

pub returns : goal.returns
returns c =
    let l = c.loop-k in
    let n = c.requires.subframes.0 in
    told_within (omega (arith, subframes_most n, subframes_least n))
    (midway_end l.invariant (gains_told_end c.args.n l.k c.args.x (omega arith)))
