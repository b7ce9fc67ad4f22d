-- The first number that passes a test, found by trying one after the other. Assumes nothing.
use Prim.Native.Nat.{ℕ, suc, ◌+◌, ◌-◌, ◌≤◌, ◌<◌}
use mathlib.Core.Path.{◌≡◌}
use mathlib.Core.Bool.{Bool, true, false}
use native.Mathlib.Numerals.{add-one}
use native.Mathlib.Omega.{arith}
use Rattle.silk.specs.PulseWriting.{first_from}

module _ (ok : ℕ → Bool) (n j : ℕ) where
  left : j < n → n - j ≡ suc (n - suc j)
  left h = omega arith

  pub first_here : j < n → ok j ≡ true → first_from ok (n - j) j ≡ j
  unfolding first_from
  first_here h t = rw (left h, t)

  pub first_next : j < n → ok j ≡ false → first_from ok (n - (j + 1)) (j + 1) ≡ first_from ok (n - j) j
  unfolding first_from
  first_next h t = rw (add-one, left h, t)

  pub first_none : n ≤ j → first_from ok (n - j) j ≡ j
  unfolding first_from
  first_none h = let e : n - j ≡ 0 = omega arith in rw e
