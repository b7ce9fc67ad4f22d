-- The tests that a caller's table and symbol get, and the refusals of document 01 that they decide: 4 for the scale,
-- 5 for the table, 8 for the symbol, 0 for none. Assumes nothing.
use Rattle.std.specs.Prelude.{ℕ, ◌-◌, ◌^◌, Bool, false, ◌&&◌, cond, List, [], ◌∷◌, leb, ltb, eqb, length, get_or}
use Rattle.icdf.specs.Rule.{before}

-- the first entry is at most m, no entry is above the one before it, and the last is 0
abbrev pub falls_ok : ℕ → List ℕ → Bool
falls_ok m [] = false
falls_ok m (x ∷ []) = leb x m && eqb x 0
falls_ok m (x ∷ y ∷ t) = leb x m && falls_ok x (y ∷ t)

abbrev pub scale_ok : ℕ → Bool
scale_ok scale = leb 1 scale && leb scale 8

unfoldable pub icdf_ok : ℕ → List ℕ → Bool
icdf_ok scale t = leb (length t) 256 && falls_ok (2 ^ scale - 1) t

unfoldable pub symbol_ok : ℕ → List ℕ → ℕ → Bool
symbol_ok scale t k = ltb k (length t) && ltb (get_or t k 0) (before scale t k)

unfoldable pub icdf_rule : ℕ → List ℕ → ℕ
icdf_rule scale t = cond (scale_ok scale) (cond (icdf_ok scale t) 0 5) 4

unfoldable pub symbol_rule : ℕ → List ℕ → ℕ → ℕ
symbol_rule scale t k = cond (scale_ok scale) (cond (icdf_ok scale t) (cond (symbol_ok scale t k) 0 8) 5) 4
