-- Quotients of whole numbers, above and below 0: toward zero (`quot_z`, what `/` gives) and down (`shr_z`, what `>>` gives). Assumes nothing.
use Prim.Native.Nat.{ℕ, suc, ◌+◌, ◌*◌, ◌/◌, ◌≤◌, ◌<◌}
use mathlib.Core.Path.{◌≡◌, refl, sym, ◌∙◌}
use native.Mathlib.Omega.{arith}
use native.Mathlib.Nat.{zero-div, div-add-mod', mod-lt}
use lib.IntN.{ℤ, pos, negsuc}
use lib.Signed.{quot_z, shr_z}
use Rattle.ints.specs.Parts.{up, down}
use Rattle.ints.proofs.Sums.{up_neg, down_neg}

pub up_quot : (z : ℤ) (m : ℕ) → up (quot_z z (pos m)) ≡ up z / m
up_quot (pos n) m = refl
up_quot (negsuc n) m = up_neg (pos (suc n / m)) ∙ sym (zero-div m)

pub down_quot : (z : ℤ) (m : ℕ) → down (quot_z z (pos m)) ≡ down z / m
down_quot (pos n) m = sym (zero-div m)
down_quot (negsuc n) m = down_neg (pos (suc n / m))

-- the shift goes down: what is lost is at least 0 and below m
pub shr_low : (z : ℤ) (m : ℕ) → 0 < m → up (shr_z z m) * m + down z ≤ up z + down (shr_z z m) * m
shr_low (pos n) m h = omega (arith, div-add-mod' n m)
shr_low (negsuc n) m h = omega (arith, div-add-mod' n m, mod-lt n h)

pub shr_high : (z : ℤ) (m : ℕ) → 0 < m → up z + down (shr_z z m) * m < up (shr_z z m) * m + down z + m
shr_high (pos n) m h = omega (arith, div-add-mod' n m, mod-lt n h)
shr_high (negsuc n) m h = omega (arith, div-add-mod' n m, mod-lt n h)
