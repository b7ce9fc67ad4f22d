-- `index_layout::delta_gain_row_run` meets its contract. Assumes nothing.
use Rattle.silk.proofs.IndexRows.{delta_gain_row}
use Rattle.index_layout.proofs.delta_gain_row_run.Goals as goal

pub returns : goal.returns
returns c = delta_gain_row c.requires
