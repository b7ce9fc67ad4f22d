-- `index_layout::type_row_run` meets its contract. Assumes nothing.
use Rattle.silk.proofs.IndexRows.{type_row}
use Rattle.index_layout.proofs.type_row_run.Goals as goal

pub returns : goal.returns
returns c = type_row c.requires.lent c.args.active c.requires.active_bound
