-- `index_single_read::interpolation_run` meets its contract. Assumes nothing.
use Rattle.std.proofs.Common.{arith}
use borrow.Author.Tests.{eq-eqb, ne_eqb}
use Rattle.symbol_reader.proofs.AlongLaws.{along_done, along_ask, along_within}
use Rattle.silk.specs.IndexSyntax.{interpolation}
use Rattle.silk.proofs.IndexSteps.{symbol_is}
use Rattle.index_single_read.proofs.interpolation_run.Goals as goal

pub returns-then-subframes-eq4 : goal.returns-then-subframes-eq4
unfolding interpolation
returns-then-subframes-eq4 c =
    let a = c.symbol_run in
    let t = c.interpolation_row_run.ensures in
    rw (eq-eqb _ _ c.if-subframes-eq4.true, symbol_is t a.ensures.took (omega arith)) (along_ask t.is a.ensures (along_done _ _))

pub returns-else-subframes-eq4 : goal.returns-else-subframes-eq4
unfolding interpolation
returns-else-subframes-eq4 c =
    rw (ne_eqb _ _ c.if-subframes-eq4.false) (along_within {n = 0} {m = 16} (omega arith) (along_done _ _))
