-- The search for a symbol (RFC 6716, section 4.1.3.3). Assumes nothing.
use Rattle.std.specs.Prelude.{ℕ, suc, ◌*◌, cond, List, [], ◌∷◌, ltb}

-- the first symbol whose entry, times the unit floor(range / 2^scale), is not above the value
unfoldable pub search : ℕ → ℕ → List ℕ → ℕ
search unit v [] = 0
search unit v (x ∷ t) = cond (ltb v (unit * x)) (suc (search unit v t)) 0
