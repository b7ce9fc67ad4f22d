-- Both lists of predictors in one row, as code has them: place by place, with a 0 for the last of either. Assumes nothing.
pub mod BookLaws
use Rattle.std.specs.Prelude.{ℕ, List, [], ◌∷◌, get_or}
use Rattle.sheet.specs.Books.{Book}

abbrev pub paired : List ℕ → List ℕ → List ℕ
paired (x ∷ xs) (y ∷ ys) = x ∷ y ∷ paired xs ys
paired (x ∷ xs) [] = 0 ∷ 0 ∷ []
paired [] ys = 0 ∷ 0 ∷ []

unfoldable pub predictor_row : Book → List ℕ
predictor_row b = paired (get_or b.predictors 0 []) (get_or b.predictors 1 [])
