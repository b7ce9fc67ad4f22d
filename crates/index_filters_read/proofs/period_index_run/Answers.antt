-- `index_filters_read::period_index_run` meets its contract. Assumes nothing.
use Rattle.std.proofs.Common.{arith}
use Rattle.symbol_reader.proofs.AlongLaws.{along_ask}
use Rattle.silk.specs.IndexSyntax.{period}
use Rattle.silk.proofs.IndexSteps.{symbol_is}
use Rattle.index_filters_read.proofs.period_index_run.Goals as goal

pub returns : goal.returns
unfolding period
returns c =
    let a = c.symbol_run-p in
    let t = c.period_row_run.ensures in
    along_ask t.is a.ensures (rw (symbol_is t a.ensures.took (omega arith)) at c.filter_indices.ensures)
