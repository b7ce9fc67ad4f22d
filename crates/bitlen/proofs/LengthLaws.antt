-- The bit length beside powers of two and leading zeros. Assumes nothing.
use Prim.Native.Nat.{ℕ, zero, suc, ◌+◌, ◌-◌, ◌*◌, ◌/◌, ◌^◌, ◌≤◌, ◌<◌}
use mathlib.Core.Path.{◌≡◌, refl, ap, subst, ◌∙◌}
use native.Mathlib.Omega.{arith}
use native.Mathlib.Nat.{add-zero, add-suc}
use lib.Count.{count_leading_zeros, leading_length}
use Rattle.bitlen.specs.Length.{length_in, bit_length}

zeros_and_length : (k n : ℕ) → count_leading_zeros k n + length_in k n ≡ k
unfolding count_leading_zeros length_in
zeros_and_length zero n = refl
zeros_and_length (suc k) zero = add-zero (suc k)
zeros_and_length (suc k) (suc n) = add-suc _ _ ∙ ap suc (zeros_and_length k (suc n / 2))

-- leading zeros and bit length share the 32 digits
pub leading_zeros_length : (n : ℕ) → count_leading_zeros 32 n + bit_length n ≡ 32
unfolding bit_length
leading_zeros_length n = zeros_and_length 32 n

pub length_most : (n : ℕ) → bit_length n ≤ 32
length_most n = omega (arith, leading_zeros_length n)

-- n < 2^length ≤ 2 n + 1
pub length_pow : (n : ℕ) → n < 2 ^ 32 → (n < 2 ^ bit_length n) × (2 ^ bit_length n ≤ 2 * n + 1)
length_pow n h =
    let l = leading_length 32 n h in
    let e : l.0 ≡ bit_length n = omega (arith, leading_zeros_length n, l.1) in
    (subst (λ (m : ℕ). n < 2 ^ m) e l.2, subst (λ (m : ℕ). 2 ^ m ≤ 2 * n + 1) e l.3)
