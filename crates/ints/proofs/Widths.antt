-- What fits a signed width, from and to what lies above and below 0. Assumes nothing.
use Prim.Native.Nat.{ℕ, ◌*◌, ◌^◌, ◌≤◌, ◌<◌, zero-le}
use mathlib.Core.Path.{sym, subst, subst⁻¹}
use native.Mathlib.Nat.{div-le_self, lt_of_le_of_lt, le_trans, le_of_lt, mul-le-mul}
use lib.Pow.{pow_pos}
use lib.IntN.{ℤ, pos, negsuc, ◌*ℤ◌}
use lib.Signed.{mag_shr, quot_z, shr_z}
use mir.Syntax.{Width}
use mir.Val.{SFits, hbits}
use mir.ValLaws.{sfits_le}
use Rattle.ints.specs.Parts.{up, down}
use Rattle.ints.proofs.Sums.{up_times, down_times}
use Rattle.ints.proofs.Quotients.{up_quot, down_quot}

pub fits_up : {w : Width} (z : ℤ) → SFits w z → up z < 2 ^ hbits w
fits_up {w} (pos n) f = f.sfits
fits_up {w} (negsuc n) f = pow_pos (hbits w)

pub fits_down : {w : Width} (z : ℤ) → SFits w z → down z ≤ 2 ^ hbits w
fits_down {w} (pos n) f = zero-le
fits_down {w} (negsuc n) f = f.sfits

pub parts_fit : {w : Width} (z : ℤ) → up z < 2 ^ hbits w → down z ≤ 2 ^ hbits w → SFits w z
parts_fit (pos n) u d = record { sfits = u }
parts_fit (negsuc n) u d = record { sfits = d }

-- a quotient and a shift fit where the dividend does
pub quot_fits : {w : Width} (z : ℤ) (m : ℕ) → SFits w z → SFits w (quot_z z (pos m))
quot_fits z m f =
    parts_fit (quot_z z (pos m)) (lt_of_le_of_lt (subst (λ (n : ℕ). n ≤ up z) (sym (up_quot z m)) (div-le_self (up z) m)) (fits_up z f))
    (le_trans (subst (λ (n : ℕ). n ≤ down z) (sym (down_quot z m)) (div-le_self (down z) m)) (fits_down z f))

pub shr_fits : {w : Width} (z : ℤ) (m : ℕ) → SFits w z → SFits w (shr_z z m)
shr_fits z m f = sfits_le (mag_shr z m) f

-- a product fits where the bounds' product does
pub times_fits : {w : Width} (z : ℤ) (k A B : ℕ) → up z ≤ A → down z ≤ A → k ≤ B → A * B < 2 ^ hbits w → SFits w (z *ℤ pos k)
times_fits {w} z k A B u d b h =
    parts_fit (z *ℤ pos k) (subst⁻¹ (λ (n : ℕ). n < 2 ^ hbits w) (up_times z k) (lt_of_le_of_lt (mul-le-mul u b) h))
    (subst⁻¹ (λ (n : ℕ). n ≤ 2 ^ hbits w) (down_times z k) (le_of_lt (lt_of_le_of_lt (mul-le-mul d b) h)))
