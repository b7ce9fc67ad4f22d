-- `gaps` meets its contract: the constant is the list, by computation. Assumes nothing.
use mathlib.Core.Path.{refl}
use Rattle.sheet.specs.Books.{narrow_book}
use Rattle.tables.proofs.books.NarrowBook1052011.gaps.Statement.{statement}
use Rattle.tables.proofs.books.NarrowBook1052011.gaps.Tie as tie

returns : tie.Need-returns
unfolding narrow_book
returns c = refl

pub gaps_spec : {M : Type 1} → statement M
gaps_spec = tie.close (tie.spec returns)
