-- What a cut leaves of the range. Assumes nothing.
use Prim.Native.Nat.{ℕ, zero, suc, ◌-◌, ◌*◌, ◌/◌, ◌^◌, ◌≤◌, ◌<◌}
use mathlib.Core.Path.{◌≡◌, refl}
use native.Mathlib.Omega.{arith}
use native.Mathlib.Nat.{mul-sub, mul-le-mul_left, div-mul-le_self, le-div_iff_mul-le}
use Rattle.entcode.specs.Cuts.{upper, lower}
use Rattle.entcode.specs.Inner.Reading.{CutOk}

-- a piece [fl, fh) of at most 2^15
pub record Proper (fl fh ft : ℕ) : Type 0 where
  pub below : fl < fh
  pub within : fh ≤ ft
  pub small : ft ≤ 2 ^ 15

pub step_some : (R ft : ℕ) → 2 ^ 23 < R → 1 ≤ ft → ft ≤ 2 ^ 15 → 256 ≤ R / ft
step_some R ft h p l = (le-div_iff_mul-le p).1 (omega arith)

pub cut_ok : (R fl fh ft : ℕ) → 2 ^ 23 < R → Proper fl fh ft → CutOk R (upper R fl ft) (lower R fh ft)
cut_ok R zero fh ft h p =
    let u : 256 ≤ R / ft = step_some R ft h (omega (arith, p.below, p.within)) p.small in
    let a : R / ft * 1 ≤ R / ft * fh = mul-le-mul_left (R / ft) p.below in
    record {
      some = omega (arith, mul-sub (R / ft) ft fh, div-mul-le_self R ft, mul-le-mul_left (R / ft) p.within);
      inside = omega arith;
    }
cut_ok R (suc f) fh ft h p =
    let u : 256 ≤ R / ft = step_some R ft h (omega (arith, p.below, p.within)) p.small in
    let a : R / ft * suc (suc f) ≤ R / ft * fh = mul-le-mul_left (R / ft) p.below in
    record {
      some = omega (arith, mul-sub (R / ft) ft fh, mul-sub (R / ft) ft (suc f), mul-le-mul_left (R / ft) p.within);
      inside = omega (arith, mul-sub (R / ft) ft (suc f), div-mul-le_self R ft);
    }

pub upper_some : (R fl ft : ℕ) → 1 ≤ fl → upper R fl ft ≡ R / ft * (ft - fl)
upper_some R zero ft h = absurd (omega arith)
upper_some R (suc f) ft h = refl
