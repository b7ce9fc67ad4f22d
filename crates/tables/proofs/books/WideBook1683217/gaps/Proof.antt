-- `gaps` meets its contract: the constant is the list, by computation. Assumes nothing.
use mathlib.Core.Path.{refl}
use Rattle.sheet.specs.Books.{wide_book}
use Rattle.tables.proofs.books.WideBook1683217.gaps.Statement.{statement}
use Rattle.tables.proofs.books.WideBook1683217.gaps.Tie as tie

returns : tie.Need-returns
unfolding wide_book
returns c = refl

pub gaps_spec : {M : Type 1} → statement M
gaps_spec = tie.close (tie.spec returns)
