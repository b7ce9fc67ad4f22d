-- `index_layout::delta_lag_row_run` meets its contract. Assumes nothing.
use Rattle.silk.proofs.IndexRows.{delta_lag_row}
use Rattle.index_layout.proofs.delta_lag_row_run.Goals as goal

pub returns : goal.returns
returns c = delta_lag_row c.requires
