-- The numbers of a program's input (document 01): a count of one byte, values of two bytes, high first. Past the end a byte is 0.
-- Assumes nothing.
use Rattle.std.specs.Prelude.{ℕ, zero, suc, ◌+◌, ◌*◌, List, [], ◌∷◌, ℤ, pos, get_or}
use Rattle.ints.specs.Wrap.{wrap16}

abbrev pub byte_at : List ℕ → ℕ → ℕ
byte_at s i = get_or s i 0

abbrev pub pair_at : List ℕ → ℕ → ℕ
pair_at s i = 256 * byte_at s i + byte_at s (i + 1)

-- two bytes as a number with a sign
unfoldable pub value_at : List ℕ → ℕ → ℤ
value_at s i = wrap16 (pos (pair_at s i))

-- n values, one behind the other
unfoldable pub values_at : List ℕ → ℕ → ℕ → List ℤ
values_at s i zero = []
values_at s i (suc n) = value_at s i ∷ values_at s (i + 2) n
