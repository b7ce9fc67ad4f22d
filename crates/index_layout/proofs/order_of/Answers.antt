-- `index_layout::order_of` meets its contract. Assumes nothing.
use mathlib.Core.Path.{sym}
use borrow.Author.Tests.{eq-eqb, ne_eqb}
use Rattle.sheet.proofs.BooksLaws.{narrow_shaped, wide_shaped}
use Rattle.index_layout.proofs.order_of.Goals as goal

pub returns-then-khz-eq16 : goal.returns-then-khz-eq16
returns-then-khz-eq16 c = rw (eq-eqb _ _ c.if-khz-eq16.true) (sym wide_shaped.order)

pub returns-else-khz-eq16 : goal.returns-else-khz-eq16
returns-else-khz-eq16 c = rw (ne_eqb _ _ c.if-khz-eq16.false) (sym narrow_shaped.order)
