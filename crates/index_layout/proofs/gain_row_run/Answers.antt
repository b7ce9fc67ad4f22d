-- `index_layout::gain_row_run` meets its contract. Assumes nothing.
use Rattle.silk.proofs.IndexRows.{gain_row}
use Rattle.index_layout.proofs.gain_row_run.Goals as goal

pub returns : goal.returns
returns c = gain_row c.requires.lent c.args.signal c.requires.signal_bound
