-- `nlsf_unpack::selectors_run` meets its contract: the bytes behind a narrow row serve places past its order. Assumes nothing.
use Rattle.std.proofs.Common.{ℕ, zero, suc, ◌≡◌, ◌/◌, ◌%◌, ◌<◌, cond, eqb, List, [], ◌∷◌, get_or, refl, ap, arith}
use borrow.Author.Tests.{eq-eqb, ne_eqb}
use Rattle.sheet.specs.Books.{narrow_book}
use Rattle.sheet.proofs.BooksLaws.{narrow_shaped}
use Rattle.nlsf_unpack.proofs.selectors_run.Goals as goal

-- a row's first five bytes, with others behind them
first_five : (l m : List ℕ) (j : ℕ) → j < 5
    → get_or (get_or l 0 0 ∷ get_or l 1 0 ∷ get_or l 2 0 ∷ get_or l 3 0 ∷ get_or l 4 0 ∷ m) j 0 ≡ get_or l j 0
first_five l m zero h = refl
first_five l m (suc zero) h = refl
first_five l m (suc (suc zero)) h = refl
first_five l m (suc (suc (suc zero))) h = refl
first_five l m (suc (suc (suc (suc zero)))) h = refl
first_five l m (suc (suc (suc (suc (suc j))))) h = absurd (omega arith)

pub returns-then-khz-eq16 : goal.returns-then-khz-eq16
returns-then-khz-eq16 c = rw (eq-eqb _ _ c.if-khz-eq16.true, c.selectors_run.ensures) (λ i l. refl)

pub returns-else-khz-eq16 : goal.returns-else-khz-eq16
returns-else-khz-eq16 c =
    let l = get_or narrow_book.selectors c.args.v [] in
    rw (ne_eqb _ _ c.if-khz-eq16.false, c.selectors_run-t.ensures)
    (λ i h. ap (λ (b : ℕ). b / cond (eqb (i % 2) 0) 2 32 % 8) (first_five l (0 ∷ 0 ∷ 0 ∷ []) (i / 2) (omega (arith, narrow_shaped.order))))
