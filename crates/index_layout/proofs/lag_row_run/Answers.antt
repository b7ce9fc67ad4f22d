-- `index_layout::lag_row_run` meets its contract. Assumes nothing.
use Rattle.silk.proofs.IndexRows.{lag_row}
use Rattle.index_layout.proofs.lag_row_run.Goals as goal

pub returns : goal.returns
returns c = lag_row c.requires
