-- `index_filters_write::scale_tell_run` meets its contract. Assumes nothing.
use Rattle.std.proofs.Common.{◌≡◌, ap, nat_abs, to_z, of_z, w8, arith}
use Rattle.sheet.specs.Directory.{scale_row}
use Rattle.silk.specs.Record.{put_scale}
use Rattle.silk.specs.IndexSyntax.{said, scale}
use Rattle.silk.proofs.IndexParts.{upto_fits, abs_kept}
use Rattle.silk.proofs.IndexTold.{coded_told, fixed_told}
use Rattle.index_filters_write.proofs.scale_tell_run.Goals as goal

pub overflow_cast-x : goal.overflow_cast-x
overflow_cast-x c =
    let u = c.requires.upto in
    rw (abs_kept w8 c.args.x.scale u.most (omega arith)) (upto_fits c.args.x.scale (omega arith) u)

pub ec_enc_icdf8_run-requires-clause-icdf : goal.ec_enc_icdf8_run-requires-clause-icdf
ec_enc_icdf8_run-requires-clause-icdf c =
    let u = c.requires.upto in
    let t = c.scale_row_run.ensures in
    rw (abs_kept w8 c.args.x.scale u.most (omega arith)) (t.good, t.writable _ (omega (arith, u.most)))

pub returns-then-mode-eq0 : goal.returns-then-mode-eq0
unfolding scale
returns-then-mode-eq0 c =
    let e : to_z w8 (of_z w8 c.args.x.scale) ≡ c.args.x.scale = abs_kept w8 c.args.x.scale c.requires.upto.most (omega arith) in
    coded_told c.args.mode 0 scale_row (λ y. said y.scale) (put_scale c.args.x) 0 c.args.x
    c.if-mode-eq0.true c.scale_row_run.ensures.is (ap nat_abs e) c.ec_enc_icdf8_run.ensures

pub returns-else-mode-eq0 : goal.returns-else-mode-eq0
unfolding scale
returns-else-mode-eq0 c =
    fixed_told c.args.mode 0 scale_row (λ y. said y.scale) (put_scale c.args.x) 0 c.args.x
    c.if-mode-eq0.false c.requires.writing.core
