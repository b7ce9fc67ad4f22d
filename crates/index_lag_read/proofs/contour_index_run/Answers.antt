-- `index_lag_read::contour_index_run` meets its contract. Assumes nothing.
use Rattle.std.proofs.Common.{arith}
use Rattle.symbol_reader.proofs.AlongLaws.{along_done, along_ask}
use Rattle.silk.specs.IndexSyntax.{contour}
use Rattle.silk.proofs.IndexRows.{contour_within}
use Rattle.silk.proofs.IndexSteps.{symbol_is}
use Rattle.index_lag_read.proofs.contour_index_run.Goals as goal

pub overflow_cast-x : goal.overflow_cast-x
overflow_cast-x c =
    let r = c.requires.rate in
    omega (arith, c.symbol_run.ensures.took.inside, (contour_within c.args.khz c.args.subframes r.0 r.1).1)

pub returns : goal.returns
unfolding contour
returns c =
    let r = c.requires.rate in
    let a = c.symbol_run in
    let t = c.contour_row_run.ensures in
    rw (symbol_is t a.ensures.took (omega (arith, (contour_within c.args.khz c.args.subframes r.0 r.1).1)))
    (along_ask t.is a.ensures (along_done _ _))
