-- `index_layout::contour_row_run` meets its contract. Assumes nothing.
use Rattle.std.proofs.Common.{◌≡◌, refl, arith}
use Rattle.silk.specs.Inner.Indices.{contour_size}
use Rattle.silk.proofs.IndexRows.{contour_within, contour_row}
use Rattle.index_layout.proofs.contour_row_run.Goals as goal

pub overflow_add-result : goal.overflow_add-result
overflow_add-result c = let r = c.requires.rate in omega (arith, (contour_within c.args.khz c.args.subframes r.0 r.1).0)

pub slice_bounds-result-end : goal.slice_bounds-result-end
slice_bounds-result-end c = let r = c.requires.rate in omega (arith, (contour_within c.args.khz c.args.subframes r.0 r.1).0)

pub returns : goal.returns
returns c =
    let r = c.requires.rate in
    let n : c.contour_size.result ≡ contour_size c.args.khz c.args.subframes = c.contour_size.ensures in
    rw n (contour_row c.requires.lent _ _ _ _ r.0 r.1 c.contour_start-start.ensures refl)
