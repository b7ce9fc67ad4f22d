-- The length of a frame, coded in one or two bytes (RFC 6716, section 3.2.1): 0 to 251 is the length itself; behind
-- 252 to 255 comes a second byte, and the length is four times that and the first. Assumes nothing.
use Rattle.std.specs.Prelude.{ℕ, zero, suc, ◌+◌, ◌-◌, ◌*◌, ◌/◌, ◌%◌, cond, List, [], ◌∷◌, ◌++◌, ltb, get_or, drop}

-- the length that a list of bytes starts with, and the bytes that it takes
abbrev pub length_of : List ℕ → ℕ
length_of r = cond (ltb (get_or r 0 0) 252) (get_or r 0 0) (4 * get_or r 1 0 + get_or r 0 0)

abbrev pub width_of : List ℕ → ℕ
width_of r = cond (ltb (get_or r 0 0) 252) 1 2

-- n lengths one behind the other, and the bytes that they take
unfoldable pub lengths : ℕ → List ℕ → List ℕ
lengths zero r = []
lengths (suc n) r = length_of r ∷ lengths n (drop (width_of r) r)

unfoldable pub widths : ℕ → List ℕ → ℕ
widths zero r = 0
widths (suc n) r = width_of r + widths n (drop (width_of r) r)

-- the inverse
unfoldable pub length_code : ℕ → List ℕ
length_code n = cond (ltb n 252) (n ∷ []) ((252 + n % 4) ∷ (((n - (252 + n % 4)) / 4) ∷ []))

unfoldable pub length_codes : List ℕ → List ℕ
length_codes [] = []
length_codes (n ∷ ns) = length_code n ++ length_codes ns

-- all together
unfoldable pub total : List ℕ → ℕ
total [] = 0
total (n ∷ ns) = n + total ns
