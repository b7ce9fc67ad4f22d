-- `index_single_read::seed_run` meets its contract. Assumes nothing.
use Rattle.std.proofs.Common.{arith}
use Rattle.symbol_reader.proofs.AlongLaws.{along_done, along_ask}
use Rattle.silk.specs.IndexSyntax.{seed}
use Rattle.silk.proofs.IndexSteps.{symbol_is}
use Rattle.index_single_read.proofs.seed_run.Goals as goal

pub returns : goal.returns
unfolding seed
returns c =
    let a = c.symbol_run in
    let t = c.seed_row_run.ensures in
    rw (symbol_is t a.ensures.took (omega arith)) (along_ask t.is a.ensures (along_done _ _))
