-- `index_filters_read::scale_index_run` meets its contract. Assumes nothing.
use Rattle.std.proofs.Common.{arith}
use borrow.Author.Tests.{eq-eqb, ne_eqb}
use Rattle.symbol_reader.proofs.AlongLaws.{along_done, along_ask, along_within}
use Rattle.silk.specs.IndexSyntax.{scale}
use Rattle.silk.proofs.IndexSteps.{symbol_is}
use Rattle.index_filters_read.proofs.scale_index_run.Goals as goal

pub returns-then-coded : goal.returns-then-coded
unfolding scale
returns-then-coded c =
    let a = c.symbol_run in
    let t = c.scale_row_run.ensures in
    rw (eq-eqb c.args.mode 0 c.if-coded.true, symbol_is t a.ensures.took (omega arith)) (along_ask t.is a.ensures (along_done _ _))

pub returns-else-coded : goal.returns-else-coded
unfolding scale
returns-else-coded c = rw (ne_eqb c.args.mode 0 c.if-coded.false) (along_within {n = 0} {m = 16} (omega arith) (along_done _ _))
