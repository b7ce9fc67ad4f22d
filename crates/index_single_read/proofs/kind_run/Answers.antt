-- `index_single_read::kind_run` meets its contract. Assumes nothing.
use Rattle.symbol_reader.proofs.AlongLaws.{along_done, along_ask}
use Rattle.silk.specs.IndexSyntax.{kind}
use Rattle.index_single_read.proofs.kind_run.Goals as goal

pub returns-clause-ran : goal.returns-clause-ran
unfolding kind
returns-clause-ran c = along_ask c.type_row_run.ensures.is c.symbol_run.ensures (along_done _ _)
