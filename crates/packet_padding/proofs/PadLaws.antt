-- The length bytes of padding. Assumes nothing.
use Prim.Native.Nat.{ℕ, zero, suc, ◌+◌, ◌-◌, ◌/◌, ◌%◌}
use mathlib.Core.Path.{◌≡◌, refl, sym, ap}
use mathlib.Core.List.{[], ◌∷◌, ◌++◌}
use native.Mathlib.Omega.{arith}
use lib.ListN.{length, replicate, length-append, length-replicate}
use Rattle.framing.specs.Padding.{pad_code}

pub pad_none : (k : ℕ) → k ≡ 0 → [] ≡ pad_code k
unfolding pad_code
pad_none k e = sym (ap pad_code e)

pub pad_some : (k : ℕ) → (k ≡ 0 → ⊥) → replicate ((k - 1) / 255) 255 ++ (((k - 1) % 255) ∷ []) ≡ pad_code k
unfolding pad_code
pad_some zero h = absurd (h refl)
pad_some (suc n) h = let e : suc n - 1 ≡ n = omega arith in rw e

pub pad_some_length : (k : ℕ) → (k ≡ 0 → ⊥) → (k - 1) / 255 + 1 ≡ length (pad_code k)
pad_some_length k h =
    omega (
      arith,
      ap length (pad_some k h),
      length-append (replicate ((k - 1) / 255) 255) (((k - 1) % 255) ∷ []),
      length-replicate {A = ℕ}
          ((k - 1) / 255) 255,
    )
