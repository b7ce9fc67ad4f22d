-- `index_layout::period_row_run` meets its contract. Assumes nothing.
use Rattle.silk.proofs.IndexRows.{period_row}
use Rattle.index_layout.proofs.period_row_run.Goals as goal

pub returns : goal.returns
returns c = period_row c.requires
