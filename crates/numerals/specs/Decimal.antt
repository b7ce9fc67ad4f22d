-- A whole number as decimal text in ASCII: a minus sign before a number below 0, then its digits, without zeros in
-- front. Assumes nothing.
use Rattle.std.specs.Prelude.{ℕ, zero, suc, ◌+◌, ◌/◌, ◌%◌, cond, List, [], ◌∷◌, ◌++◌, ltb, ℤ, pos, negsuc}

-- `0` is 48
abbrev pub digit : ℕ → ℕ
digit d = 48 + d

-- the digits of n, at most k of them: those of n / 10, if any, before the last
unfoldable pub digits_in : ℕ → ℕ → List ℕ
digits_in zero n = []
digits_in (suc k) n = cond (ltb n 10) (digit n ∷ []) (digits_in k (n / 10) ++ (digit (n % 10) ∷ []))

-- n has at most n + 1 digits
unfoldable pub natural : ℕ → List ℕ
natural n = digits_in (suc n) n

-- `-` is 45
unfoldable pub decimal : ℤ → List ℕ
decimal (pos n) = natural n
decimal (negsuc n) = 45 ∷ natural (suc n)
