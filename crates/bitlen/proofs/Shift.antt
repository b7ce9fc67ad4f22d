-- 1 << n is 2^n in 32 bits. Assumes nothing.
use Prim.Native.Nat.{ℕ, ◌*◌, ◌%◌, ◌^◌, ◌≤◌}
use mathlib.Core.Path.{◌≡◌, ◌∙◌}
use native.Mathlib.Omega.{arith}
use native.Mathlib.Nat.{one-mul}
use lib.Dec.{lit<}
use lib.Pow.{shl_exact}

pub one_shl : (n : ℕ) → n ≤ 31 → 1 * 2 ^ n % 2 ^ 32 ≡ 2 ^ n
one_shl n h = shl_exact 1 n 32 (lit< tt) (omega arith) ∙ one-mul (2 ^ n)
