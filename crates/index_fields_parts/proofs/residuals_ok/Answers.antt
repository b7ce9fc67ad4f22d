-- `index_fields_parts::residuals_ok` meets its contract. Assumes nothing.
use Rattle.std.proofs.Common.{ℕ, ℤ, ◌≡◌, ◌≤◌, Bool, cond, List, length, get_or, pos, nat_abs, sym, ap, subst, ◌∙◌, arith}
use borrow.Author.Rules.{rules}
use borrow.Author.Tests.{eq-eqb, ne_eqb}
use Rattle.deciding.specs.Inner.{Decides}
use Rattle.sheet.specs.Books.{narrow_book, wide_book}
use Rattle.sheet.proofs.BooksLaws.{narrow_shaped, wide_shaped}
use Rattle.silk.specs.IndexSyntax.{book_of}
use Rattle.index_decides.proofs.Tested.{residuals_tested}
use Rattle.index_fields_parts.proofs.residuals_ok.Goals as goal

-- a test of the residuals of n places, n the order
ordered : (khz : ℕ) (l : List ℤ) (t : Bool) (n : ℕ) → (book_of khz).order ≡ n
    → Decides t ((k : ℕ) → 1 ≤ k → k ≤ n → nat_abs (get_or l k (pos 0)) ≤ 10)
    → Decides t ((k : ℕ) → 1 ≤ k → k ≤ (book_of khz).order → nat_abs (get_or l k (pos 0)) ≤ 10)
ordered khz l t n e = subst (λ (m : ℕ). Decides t ((k : ℕ) → 1 ≤ k → k ≤ m → nat_abs (get_or l k (pos 0)) ≤ 10)) (sym e)

pub returns-then-khz-eq16 : goal.returns-then-khz-eq16
returns-then-khz-eq16 c =
    let l = c.args.x.nlsf in
    let h : length l ≡ 17 = search rules in
    let e : (book_of c.args.khz).order ≡ 16
    = ap (λ (t : Bool). (cond t wide_book narrow_book).order) (eq-eqb _ _ c.if-khz-eq16.true) ∙ wide_shaped.order in
    ordered c.args.khz l _ 16 e (rw c.all_in_range.ensures (residuals_tested 16 l (omega (arith, h))))

pub returns-else-khz-eq16 : goal.returns-else-khz-eq16
returns-else-khz-eq16 c =
    let l = c.args.x.nlsf in
    let h : length l ≡ 17 = search rules in
    let e : (book_of c.args.khz).order ≡ 10
    = ap (λ (t : Bool). (cond t wide_book narrow_book).order) (ne_eqb _ _ c.if-khz-eq16.false) ∙ narrow_shaped.order in
    ordered c.args.khz l _ 10 e (rw c.all_in_range-else-khz-eq16.ensures (residuals_tested 10 l (omega (arith, h))))
