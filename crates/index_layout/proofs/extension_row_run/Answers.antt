-- `index_layout::extension_row_run` meets its contract. Assumes nothing.
use Rattle.silk.proofs.IndexRows.{extension_row}
use Rattle.index_layout.proofs.extension_row_run.Goals as goal

pub returns : goal.returns
returns c = extension_row c.requires
