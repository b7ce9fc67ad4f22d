-- `index_layout::interpolation_row_run` meets its contract. Assumes nothing.
use Rattle.silk.proofs.IndexRows.{interpolation_row_lem}
use Rattle.index_layout.proofs.interpolation_row_run.Goals as goal

pub returns : goal.returns
returns c = interpolation_row_lem c.requires
