-- Refusals are numbers of document 01's table, 0 for none. "The checks run in number order and the first decides."
-- Assumes nothing.
use Rattle.std.specs.Prelude.{ℕ, cond, eqb}

-- the first of two checks' refusals
unfoldable pub first_of : ℕ → ℕ → ℕ
first_of a b = cond (eqb a 0) b a
