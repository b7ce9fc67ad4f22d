-- What the rows and the constants of a book in code share. Assumes nothing.
use Rattle.std.proofs.Common.{arith}
use Rattle.std.specs.Prelude.{ℕ, ◌≡◌, ◌≤◌, ℤ, pos, map, refl}
use Rattle.sheet.proofs.WeightsLaws.{narrow_by_rule, narrow_rises, wide_by_rule, wide_rises}
use Rattle.sheet.specs.Books.{Book, narrow_book, wide_book}
use Rattle.sheet.specs.Statement.{ByRule, Rising}
use Rattle.spectrum.proofs.BookLaws.{Usable, narrow_usable, wide_usable}
use Rattle.spectrum.specs.Values.{total}

-- the book's lists
abbrev pub Lists : Type 0
Lists = Book

-- of order n, with rows of h selectors, p predictors and g gaps, by the step s of its residuals and the sum of its gaps
pub record BookLaws (n h p g s : ℕ) (sum : ℤ) (b : Book) : Type 0 where
  pub usable : Usable b
  pub order : b.order ≡ n
  pub step : b.step ≡ s
  pub gaps : total (map pos b.gaps) ≡ sum
  pub rising : Rising b
  pub ruled : ByRule b
  pub selectors_few : h ≤ 8
  pub predictors_few : p ≤ 32
  pub gaps_few : g ≤ 17

pub narrow_laws : BookLaws 10 5 20 11 11796 (pos 742) narrow_book
unfolding narrow_book total
narrow_laws =
    record {
      usable = narrow_usable;
      order = refl;
      step = refl;
      gaps = refl;
      rising = narrow_rises;
      ruled = narrow_by_rule;
      selectors_few = omega arith;
      predictors_few = omega arith;
      gaps_few = omega arith;
    }

pub wide_laws : BookLaws 16 8 32 17 9830 (pos 583) wide_book
unfolding wide_book total
wide_laws =
    record {
      usable = wide_usable;
      order = refl;
      step = refl;
      gaps = refl;
      rising = wide_rises;
      ruled = wide_by_rule;
      selectors_few = omega arith;
      predictors_few = omega arith;
      gaps_few = omega arith;
    }
