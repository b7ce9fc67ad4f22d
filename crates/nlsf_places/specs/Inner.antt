-- What placing a vector asks of its rows, and what it leaves in the vector. Assumes nothing.
use Rattle.std.specs.Prelude.{ℕ, ◌+◌, ◌*◌, ◌/◌, ◌≤◌, ◌<◌, ◌≡◌, true, cond, List, ℤ, pos, negsuc, length, get_or}
use Rattle.std.specs.Int.Signed.{lt_z}
use Rattle.sheet.specs.Weights.{weights_of, rises}
use Rattle.spectrum.specs.Places.{placed_all}
use Rattle.spectrum.specs.Residuals.{residuals, list_of}
use Rattle.spectrum.specs.Values.{Within}

-- what an index x 1024 is moved by
unfoldable pub toward_zero : ℤ → ℤ
toward_zero x = cond (lt_z (pos 0) x) (negsuc 101) (cond (lt_z x (pos 0)) (pos 102) (pos 0))

-- the predictor of place i in list l, both lists in one row place by place
unfoldable pub predictor_of : List ℕ → ℕ → ℕ → ℕ
predictor_of lists l i = get_or lists (2 * i + l) 0

-- the predictor of place i, by the selectors of a vector
abbrev pub predictor_at : List ℕ → List ℕ → ℕ → ℕ
predictor_at selectors lists i = predictor_of lists (list_of (get_or selectors (i / 2) 0) i) i

-- a book's step, and what it has for one vector: selectors, both lists of predictors in one row, values and weights
pub record Rows : Type 0 where
  pub step : ℕ
  pub selectors : List ℕ
  pub lists : List ℕ
  pub values : List ℕ
  pub weights : List ℕ

-- those of a vector whose weights are worked out
abbrev pub weighted : ℕ → List ℕ → List ℕ → List ℕ → Rows
weighted s e p b = record { step = s; selectors = e; lists = p; values = b; weights = weights_of b }

abbrev pub predictor_by : Rows → ℕ → ℕ
predictor_by t = predictor_at t.selectors t.lists

-- the residuals of indices under these rows, and the places
abbrev pub residuals_by : Rows → List ℤ → List ℤ
residuals_by t xs = residuals t.step (predictor_by t) 0 xs

abbrev pub places_by : Rows → List ℤ → List ℤ
places_by t xs = placed_all t.values t.weights (residuals_by t xs)

-- 1 to 16 values that rise, rows as long, indices from -10 to 10, weights above 0, a selector for each two places, a
-- predictor of each list for each place
pub record PlacesOk (t : Rows) (v xs : List ℤ) : Type 0 where
  pub some : 1 ≤ length v
  pub few : length v ≤ 16
  pub indices : length xs ≡ length v
  pub tens : Within 10 10 xs
  pub small : t.step ≤ 11796
  pub pairs : length v ≡ 2 * length t.selectors
  pub lists : length t.lists ≡ 2 * length v
  pub book : length t.values ≡ length v
  pub rising : rises t.values ≡ true
  pub weighed : length t.weights ≡ length v
  pub heavy : (i : ℕ) → i < length v → 1 ≤ get_or t.weights i 0
