-- `index_layout::residual_row_run` meets its contract. Assumes nothing.
use Rattle.silk.proofs.IndexRows.{residual_row}
use Rattle.index_layout.proofs.residual_row_run.Goals as goal

pub returns : goal.returns
returns c = residual_row c.requires.lent c.args.k c.requires.k_bound
