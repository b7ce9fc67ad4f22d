-- The shape of the two spectrum books. Assumes nothing.
use Prim.Native.Nat.{ℕ, ◌+◌, ◌-◌, ◌/◌}
use mathlib.Core.Path.{◌≡◌, refl}
use lib.ListN.{length}
use Rattle.lists.proofs.Rows.{Grid, grid_of}
use Rattle.sheet.specs.Books.{Book, narrow_book, wide_book}

-- ---- shape

-- a book of order n: 32 vectors, weights and selectors, two lists of predictors, and one gap more than the order
pub record Shaped (n : ℕ) (b : Book) : Type 0 where
  pub order : b.order ≡ n
  pub vectors : Grid 32 n b.vectors
  pub weights : Grid 32 n b.weights
  pub selectors : Grid 32 (n / 2) b.selectors
  pub predictors : Grid 2 (n - 1) b.predictors
  pub gaps : length b.gaps ≡ n + 1

pub narrow_shaped : Shaped 10 narrow_book
unfolding narrow_book
narrow_shaped =
    record {
      order = refl;
      vectors = grid_of 32 10 narrow_book.vectors refl;
      weights = grid_of 32 10 narrow_book.weights refl;
      selectors = grid_of 32 5 narrow_book.selectors refl;
      predictors = grid_of 2 9 narrow_book.predictors refl;
      gaps = refl;
    }

pub wide_shaped : Shaped 16 wide_book
unfolding wide_book
wide_shaped =
    record {
      order = refl;
      vectors = grid_of 32 16 wide_book.vectors refl;
      weights = grid_of 32 16 wide_book.weights refl;
      selectors = grid_of 32 8 wide_book.selectors refl;
      predictors = grid_of 2 15 wide_book.predictors refl;
      gaps = refl;
    }
