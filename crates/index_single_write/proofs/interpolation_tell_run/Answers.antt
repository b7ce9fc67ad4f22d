-- `index_single_write::interpolation_tell_run` meets its contract. Assumes nothing.
use Rattle.std.proofs.Common.{◌≡◌, ap, nat_abs, to_z, of_z, w8, arith}
use Rattle.sheet.specs.Directory.{interpolation_row}
use Rattle.silk.specs.Record.{put_interp}
use Rattle.silk.specs.IndexSyntax.{said, interpolation}
use Rattle.silk.proofs.IndexParts.{upto_fits, abs_kept}
use Rattle.silk.proofs.IndexTold.{coded_told, fixed_told}
use Rattle.index_single_write.proofs.interpolation_tell_run.Goals as goal

pub overflow_cast-x : goal.overflow_cast-x
overflow_cast-x c =
    let u = c.requires.upto in
    rw (abs_kept w8 c.args.x.interp u.most (omega arith)) (upto_fits c.args.x.interp (omega arith) u)

pub ec_enc_icdf8_run-requires-clause-icdf : goal.ec_enc_icdf8_run-requires-clause-icdf
ec_enc_icdf8_run-requires-clause-icdf c =
    let u = c.requires.upto in
    let t = c.interpolation_row_run.ensures in
    rw (abs_kept w8 c.args.x.interp u.most (omega arith)) (t.good, t.writable _ (omega (arith, u.most)))

pub returns-then-subframes-eq4 : goal.returns-then-subframes-eq4
unfolding interpolation
returns-then-subframes-eq4 c =
    let e : to_z w8 (of_z w8 c.args.x.interp) ≡ c.args.x.interp = abs_kept w8 c.args.x.interp c.requires.upto.most (omega arith) in
    coded_told c.args.subframes 4 interpolation_row (λ y. said y.interp) (put_interp c.args.x) 4 c.args.x
    c.if-subframes-eq4.true c.interpolation_row_run.ensures.is (ap nat_abs e) c.ec_enc_icdf8_run.ensures

pub returns-else-subframes-eq4 : goal.returns-else-subframes-eq4
unfolding interpolation
returns-else-subframes-eq4 c =
    fixed_told c.args.subframes 4 interpolation_row (λ y. said y.interp) (put_interp c.args.x) 4 c.args.x
    c.if-subframes-eq4.false c.requires.writing.core
