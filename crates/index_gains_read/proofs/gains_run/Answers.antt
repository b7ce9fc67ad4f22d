-- `index_gains_read::gains_run` meets its contract: the first gain, then the others. Assumes nothing.
use Rattle.symbol_reader.proofs.AlongLaws.{along_bind}
use Rattle.silk.specs.IndexSyntax.{gains}
use Rattle.index_gains_read.proofs.gains_run.Goals as goal

pub returns : goal.returns
unfolding gains
returns c = along_bind _ c.first_gain.ensures c.more_gains.ensures
