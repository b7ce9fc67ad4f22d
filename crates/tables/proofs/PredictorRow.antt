-- The lists of predictors of a book in one row, two entries for each place: the last place has no predictor, and a 0 stands there for
-- either list. Assumes nothing.
use Prim.Native.Nat.{ℕ, zero, suc, ◌+◌, ◌-◌, ◌*◌, ◌≤◌, ◌<◌}
use mathlib.Core.Path.{◌≡◌, refl, sym, ap, ◌∙◌}
use mathlib.Core.List.{List, [], ◌∷◌}
use native.Mathlib.Omega.{arith}
use lib.ListN.{length, get_or}
use Rattle.sheet.specs.Books.{Book}
use Rattle.sheet.proofs.BooksLaws.{Shaped}
use Rattle.tables.specs.Inner.{paired, predictor_row}

pairs_long : (xs ys : List ℕ) → length xs ≡ length ys → length (paired xs ys) ≡ 2 * length xs + 2
pairs_long [] ys e = refl
pairs_long (x ∷ xs) [] e = absurd (omega arith)
pairs_long (x ∷ xs) (y ∷ ys) e = omega (arith, pairs_long xs ys (omega arith))

-- the entry of place i that is of list l
abbrev entry_of : ℕ → ℕ → ℕ
entry_of l zero = l
entry_of l (suc i) = suc (suc (entry_of l i))

entry_is : (l i : ℕ) → entry_of l i ≡ 2 * i + l
entry_is l zero = omega arith
entry_is l (suc i) = omega (arith, entry_is l i)

entry_at : (xs ys : List ℕ) → length xs ≡ length ys → (l i : ℕ) → l < 2 → i ≤ length xs
    → get_or (paired xs ys) (entry_of l i) 0 ≡ get_or (get_or (xs ∷ ys ∷ []) l []) i 0
entry_at [] [] e zero zero g h = refl
entry_at [] [] e (suc zero) zero g h = refl
entry_at [] [] e (suc (suc l)) zero g h = absurd (omega arith)
entry_at [] [] e l (suc i) g h = absurd (omega arith)
entry_at [] (y ∷ ys) e l i g h = absurd (omega arith)
entry_at (x ∷ xs) [] e l i g h = absurd (omega arith)
entry_at (x ∷ xs) (y ∷ ys) e zero zero g h = refl
entry_at (x ∷ xs) (y ∷ ys) e (suc zero) zero g h = refl
entry_at (x ∷ xs) (y ∷ ys) e zero (suc i) g h = entry_at xs ys (omega arith) zero i g (omega arith)
entry_at (x ∷ xs) (y ∷ ys) e (suc zero) (suc i) g h = entry_at xs ys (omega arith) (suc zero) i g (omega arith)
entry_at (x ∷ xs) (y ∷ ys) e (suc (suc l)) i g h = absurd (omega arith)

both : (rs : List (List ℕ)) (l : ℕ) → l < 2 → get_or (get_or rs 0 [] ∷ get_or rs 1 [] ∷ []) l [] ≡ get_or rs l []
both rs zero g = refl
both rs (suc zero) g = refl
both rs (suc (suc l)) g = absurd (omega arith)

module _ (b : Book) (n : ℕ) (s : Shaped n b) (h : 1 ≤ n) where
  wide : (k : ℕ) → k < 2 → length (get_or b.predictors k []) ≡ n - 1
  wide k l = s.predictors.width k l

  alike : length (get_or b.predictors 0 []) ≡ length (get_or b.predictors 1 [])
  alike = omega (arith, wide 0 (omega arith), wide 1 (omega arith))

  pub predictor_row_length : length (predictor_row b) ≡ 2 * n
  unfolding predictor_row
  predictor_row_length =
      omega (arith, pairs_long (get_or b.predictors 0 []) (get_or b.predictors 1 []) alike, wide 0 (omega arith))

  -- entry i of list k, up to the last place
  pub predictor_row_at : (k i : ℕ) → k < 2 → i < n → get_or (predictor_row b) (2 * i + k) 0 ≡ get_or (get_or b.predictors k []) i 0
  unfolding predictor_row
  predictor_row_at k i g l =
      let xs = get_or b.predictors 0 [] in
      let ys = get_or b.predictors 1 [] in
      ap (λ (m : ℕ). get_or (paired xs ys) m 0) (sym (entry_is k i))
      ∙ entry_at xs ys alike k i g (omega (arith, wide 0 (omega arith)))
      ∙ ap (λ (r : List ℕ). get_or r i 0) (both b.predictors k g)
