-- Both lists of predictors stand in one row. Assumes nothing.
use Rattle.std.proofs.Common.{arith}
use Rattle.table_entries.proofs.GridLaws.{predictor_within, predictor_inside, predictor_past}
use Rattle.table_entries.proofs.book.predictors_entry.Goals as goal

pub bounds-pairs-place : goal.bounds-pairs-place
bounds-pairs-place g c =
    omega (arith, predictor_within g.met.B.Book.laws c.args.place (omega arith) c.predictors-pairs.ensures)

pub returns-then-place-width : goal.returns-then-place-width
returns-then-place-width g c =
    predictor_inside g.met.B.Book.laws c.args.place (omega arith) c.predictors-pairs.ensures c.from.ensures

pub returns-else-place-width : goal.returns-else-place-width
returns-else-place-width g c = predictor_past g.met.B.Book.laws c.args.place (omega arith)
