-- `index_layout::scale_row_run` meets its contract. Assumes nothing.
use Rattle.silk.proofs.IndexRows.{scale_row_lem}
use Rattle.index_layout.proofs.scale_row_run.Goals as goal

pub returns : goal.returns
returns c = scale_row_lem c.requires
