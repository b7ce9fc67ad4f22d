-- How many filters a period has, and as the machine shifts. Assumes nothing.
use Prim.Native.Nat.{ℕ, ◌*◌, ◌%◌, ◌^◌, ◌≤◌, ◌<◌}
use mathlib.Core.Path.{◌≡◌}
use native.Mathlib.Omega.{arith}
use lib.Dec.{lit<}
use lib.Pow.{shl_exact, pow_mono}

module _ (p : ℕ) (h : p < 3) where
  pub size_is : 8 * 2 ^ p % 2 ^ 64 ≡ 8 * 2 ^ p
  size_is = shl_exact 4 p 64 (lit< tt) (omega arith)

  pub filters_most : 8 * 2 ^ p ≤ 32
  filters_most = omega (arith, pow_mono {i = p} {j = 2} (omega arith))

  pub size_most : 8 * 2 ^ p % 2 ^ 64 ≤ 32
  size_most = omega (arith, size_is, filters_most)
