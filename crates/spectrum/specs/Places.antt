-- The places of a line spectrum before it is stabilised (RFC 6716, section 4.2.7.5.3). Assumes nothing.
use Rattle.std.specs.Prelude.{ℕ, ◌*◌, List, [], ◌∷◌, ℤ, pos, ◌+ℤ◌, ◌*ℤ◌, get_or}
use Rattle.std.specs.Int.Signed.{quot_z}
use Rattle.sheet.specs.Books.{Book}
use Rattle.spectrum.specs.Residuals.{residuals, predictor_in}
use Rattle.spectrum.specs.Values.{held}

-- book value x 128 plus residual x 16,384 divided by its weight, toward zero, held between 0 and 32,767
unfoldable pub placed : ℕ → ℕ → ℤ → ℤ
placed value weight r = held (pos 0) (pos 32767) (quot_z (r *ℤ pos 16384) (pos weight) +ℤ pos (value * 128))

unfoldable pub placed_all : List ℕ → List ℕ → List ℤ → List ℤ
placed_all [] ws rs = []
placed_all (b ∷ bs) [] rs = []
placed_all (b ∷ bs) (w ∷ ws) [] = []
placed_all (b ∷ bs) (w ∷ ws) (r ∷ rs) = placed b w r ∷ placed_all bs ws rs

-- vector v of a book, moved by the indices of its places
unfoldable pub places : Book → ℕ → List ℤ → List ℤ
places b v xs =
    placed_all (get_or b.vectors v []) (get_or b.weights v [])
    (residuals b.step (predictor_in (get_or b.selectors v []) b.predictors) 0 xs)
