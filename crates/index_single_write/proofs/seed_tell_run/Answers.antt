-- `index_single_write::seed_tell_run` meets its contract. Assumes nothing.
use Rattle.std.proofs.Common.{◌≡◌, ap, nat_abs, to_z, of_z, w8, arith}
use Rattle.tree.proofs.Told.{told_done, told_ask}
use Rattle.silk.proofs.IndexParts.{upto_fits, abs_kept}
use Rattle.silk.specs.IndexSyntax.{seed}
use Rattle.index_single_write.proofs.seed_tell_run.Goals as goal

pub overflow_cast-x : goal.overflow_cast-x
overflow_cast-x c =
    let u = c.requires.upto in
    rw (abs_kept w8 c.args.x.seed u.most (omega arith)) (upto_fits c.args.x.seed (omega arith) u)

pub ec_enc_icdf8_run-requires-clause-icdf : goal.ec_enc_icdf8_run-requires-clause-icdf
ec_enc_icdf8_run-requires-clause-icdf c =
    let u = c.requires.upto in
    let t = c.seed_row_run.ensures in
    rw (abs_kept w8 c.args.x.seed u.most (omega arith)) (t.good, t.writable _ (omega (arith, u.most)))

pub returns : goal.returns
unfolding seed
returns c =
    let a = c.ec_enc_icdf8_run in
    let e : to_z w8 (of_z w8 c.args.x.seed) ≡ c.args.x.seed = abs_kept w8 c.args.x.seed c.requires.upto.most (omega arith) in
    told_ask c.seed_row_run.ensures.is (ap nat_abs e) a.ensures (told_done a.ensures.core)
