-- `index_layout::seed_row_run` meets its contract. Assumes nothing.
use Rattle.silk.proofs.IndexRows.{seed_row}
use Rattle.index_layout.proofs.seed_row_run.Goals as goal

pub returns : goal.returns
returns c = seed_row c.requires
