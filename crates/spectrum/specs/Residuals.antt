-- Residuals of a line spectrum (RFC 6716, section 4.2.7.5.2). Assumes nothing.
use Rattle.std.specs.Prelude.{ℕ, suc, ◌/◌, ◌%◌, cond, List, [], ◌∷◌, eqb, ℤ, pos, ◌+ℤ◌, ◌-ℤ◌, ◌*ℤ◌, get_or}
use Rattle.std.specs.Int.Signed.{lt_z, shr_z}

-- an index x 1024, moved 102 toward zero
unfoldable pub nudged : ℤ → ℤ
nudged x = cond (lt_z (pos 0) x) (x *ℤ pos 1024 -ℤ pos 102) (cond (lt_z x (pos 0)) (x *ℤ pos 1024 +ℤ pos 102) (pos 0))

-- times the step, shifted right 16 with floor
unfoldable pub scaled : ℕ → ℤ → ℤ
scaled step x = shr_z (nudged x *ℤ pos step) 65536

-- what the residual behind adds, through a predictor, with floor
unfoldable pub predicted : ℕ → ℤ → ℤ
predicted p r = shr_z (r *ℤ pos p) 256

-- what stands first; 0 where nothing does
abbrev pub leading : List ℤ → ℤ
leading [] = pos 0
leading (r ∷ rs) = r

-- from the last place down: `predictor i` is that of place i, k the place of the first index. The last place looks at
-- no predictor
unfoldable pub residuals : ℕ → (ℕ → ℕ) → ℕ → List ℤ → List ℤ
residuals step predictor k [] = []
residuals step predictor k (x ∷ []) = scaled step x ∷ []
residuals step predictor k (x ∷ y ∷ xs) =
    (predicted (predictor k) (leading (residuals step predictor (suc k) (y ∷ xs))) +ℤ scaled step x) ∷
    residuals step predictor (suc k) (y ∷ xs)

-- ---- predictors by the selectors

-- a selector byte serves an even place by its lowest bit and the odd place behind it by bit 4: the list that the
-- predictor comes from
abbrev pub list_of : ℕ → ℕ → ℕ
list_of e i = cond (eqb (i % 2) 0) (e % 2) (e / 16 % 2)

-- the predictor of place i, by the selectors of a vector and the lists of predictors
unfoldable pub predictor_in : List ℕ → List (List ℕ) → ℕ → ℕ
predictor_in selectors lists i = get_or (get_or lists (list_of (get_or selectors (i / 2) 0) i) []) i 0
