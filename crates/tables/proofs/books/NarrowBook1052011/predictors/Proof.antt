-- `predictors` meets its contract: the constant is the row, by computation. Assumes nothing.
use mathlib.Core.Path.{refl}
use Rattle.sheet.specs.Books.{narrow_book}
use Rattle.tables.specs.Inner.{predictor_row}
use Rattle.tables.proofs.books.NarrowBook1052011.predictors.Statement.{statement}
use Rattle.tables.proofs.books.NarrowBook1052011.predictors.Tie as tie

returns : tie.Need-returns
unfolding narrow_book predictor_row
returns c = refl

pub predictors_spec : {M : Type 1} → statement M
predictors_spec = tie.close (tie.spec returns)
