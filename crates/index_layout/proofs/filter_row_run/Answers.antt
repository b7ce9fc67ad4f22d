-- `index_layout::filter_row_run` meets its contract. Assumes nothing.
use Rattle.std.proofs.Common.{◌≡◌, refl, ◌+◌, ◌*◌, ◌^◌, arith}
use Rattle.silk.proofs.IndexRows.{filter_row}
use Rattle.index_layout.proofs.FilterSizes.{size_is, size_most}
use Rattle.index_layout.proofs.filter_row_run.Goals as goal

pub slice_bounds-result-end : goal.slice_bounds-result-end
slice_bounds-result-end c = omega (arith, size_most c.args.p c.requires.p_bound)

pub returns : goal.returns
returns c = rw (size_is c.args.p c.requires.p_bound) (filter_row c.requires.lent c.args.p (8 * 2 ^ c.args.p) c.requires.p_bound refl)
