-- `index_layout::gain_low_row_run` meets its contract. Assumes nothing.
use Rattle.silk.proofs.IndexRows.{gain_low_row}
use Rattle.index_layout.proofs.gain_low_row_run.Goals as goal

pub returns : goal.returns
returns c = gain_low_row c.requires
