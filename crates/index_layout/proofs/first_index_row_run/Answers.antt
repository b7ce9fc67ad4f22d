-- `index_layout::first_index_row_run` meets its contract. Assumes nothing.
use Rattle.std.proofs.Common.{arith}
use Rattle.silk.proofs.IndexRows.{rate_most, first_index_row}
use Rattle.index_layout.proofs.first_index_row_run.Goals as goal

pub returns : goal.returns
returns c = first_index_row c.requires.lent _ (omega (arith, rate_most c.requires.rate.0))
