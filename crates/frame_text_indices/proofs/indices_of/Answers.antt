-- The order is 16 at 16 kHz, 10 below. Assumes nothing.
use Rattle.std.proofs.Common.{refl, arith}
use borrow.Author.Tests.{eq-eqb, ne_eqb}
use Rattle.sheet.specs.Books.{narrow_book, wide_book}
use Rattle.frame_text_indices.proofs.indices_of.Goals as goal

pub returns-then-khz-eq16 : goal.returns-then-khz-eq16
unfolding wide_book
returns-then-khz-eq16 c = rw (eq-eqb _ _ c.if-khz-eq16.true) (refl, omega arith)

pub returns-else-khz-eq16 : goal.returns-else-khz-eq16
unfolding narrow_book
returns-else-khz-eq16 c = rw (ne_eqb _ _ c.if-khz-eq16.false) (refl, omega arith)
