-- `index_layout::lag_low_row_run` meets its contract. Assumes nothing.
use Rattle.std.proofs.Common.{arith}
use Rattle.silk.proofs.IndexRows.{lag_low_within, lag_low_row}
use Rattle.index_layout.proofs.lag_low_row_run.Goals as goal

pub overflow_add-result : goal.overflow_add-result
overflow_add-result c = omega (arith, (lag_low_within c.args.khz c.requires.rate).0)

pub slice_bounds-result-end : goal.slice_bounds-result-end
slice_bounds-result-end c = omega (arith, (lag_low_within c.args.khz c.requires.rate).0)

pub returns : goal.returns
returns c = lag_low_row c.requires.lent c.args.khz _ c.requires.rate c.lag_low_start-start.ensures
