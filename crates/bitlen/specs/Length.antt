-- The bit length of a number below 2^32: how many binary digits it has, counted by halving, and 0 for 0. RFC 6716
-- counts with it in bounded numbers (section 4.1.5) and in the account (section 4.1.6.1). Assumes nothing.
use Rattle.std.specs.Prelude.{ℕ, zero, suc, ◌/◌}

-- the first argument is how many digits are still to be looked at
unfoldable pub length_in : ℕ → ℕ → ℕ
length_in zero n = zero
length_in (suc k) zero = zero
length_in (suc k) (suc n) = suc (length_in k (suc n / 2))

unfoldable pub bit_length : ℕ → ℕ
bit_length n = length_in 32 n
