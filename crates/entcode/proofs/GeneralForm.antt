-- Reading by the general form of RFC 6716 section 4.1.2: the sought number is ft - min(floor(value / step) + 1, ft),
-- the symbol is the one whose [fl, fh) holds it, and the range becomes step (fh - fl), or range - step (ft - fh)
-- where fl is 0. Every model's reader does just that. And section 5.1.1, the writer's coded part, in the RFC's words.
-- Assumes nothing.
use Prim.Native.Nat.{ℕ, zero, suc, ◌+◌, ◌-◌, ◌*◌, ◌/◌, ◌^◌, ◌≤◌, ◌<◌}
use mathlib.Core.Path.{◌≡◌, refl, ap, ap₂}
use native.Mathlib.Omega.{arith}
use native.Mathlib.Nat.{mul_comm, mul-sub, mul-le-mul_left, div-mul-le_self, le-div_iff_mul-le, div-lt_iff_lt-mul}
use Rattle.entcode.specs.Models.{Model, coded, lo, hi, all, Readable, Allowed}
use Rattle.entcode.specs.Cuts.{upper, lower}
use Rattle.entcode.proofs.CutLaws.{Proper, step_some}
use Rattle.entcode.proofs.ModelLaws.{proper, Holds, pick_holds, pick_is}
use Rattle.entcode.specs.Reader.{sought, pick}
use Rattle.entcode.specs.Writer.{Writer, with_front, norm_w, code_w}

-- the sought number lies in a piece exactly where the value lies in its part
pub sought_in : (R val fl fh ft : ℕ) → 2 ^ 23 < R → Proper fl fh ft → lower R fh ft ≤ val → val < upper R fl ft
    → (fl ≤ sought R val ft) × (sought R val ft < fh)
sought_in R val zero fh ft h p a b =
    let u : 1 ≤ R / ft = omega (arith, step_some R ft h (omega (arith, p.below, p.within)) p.small) in
    let q : ft - fh ≤ val / (R / ft) = (le-div_iff_mul-le u).1 (omega (arith, mul_comm (R / ft) (ft - fh))) in
    (omega arith, omega (arith, p.below, p.within))
sought_in R val (suc f) fh ft h p a b =
    let u : 1 ≤ R / ft = omega (arith, step_some R ft h (omega (arith, p.below, p.within)) p.small) in
    let q : ft - fh ≤ val / (R / ft) = (le-div_iff_mul-le u).1 (omega (arith, mul_comm (R / ft) (ft - fh))) in
    let r : val / (R / ft) < ft - suc f = (div-lt_iff_lt-mul u).1 (omega (arith, mul_comm (R / ft) (ft - suc f))) in
    (omega (arith, p.below, p.within), omega (arith, p.below, p.within))

pub part_of : (R val fl fh ft : ℕ) → 2 ^ 23 < R → val < R → Proper fl fh ft → fl ≤ sought R val ft → sought R val ft < fh
    → (lower R fh ft ≤ val) × (val < upper R fl ft)
part_of R val fl fh ft h v p a b = (low, high fl a p.below)
  where
    step : 256 ≤ R / ft
    step = step_some R ft h (omega (arith, p.below, p.within)) p.small

    low : lower R fh ft ≤ val
    low =
        let q : ft - fh ≤ val / (R / ft) = omega (arith, p.below, p.within) in
        omega (arith, (le-div_iff_mul-le {k = R / ft} {x = ft - fh} {y = val} (omega (arith, step))).0 q, mul_comm (R / ft) (ft - fh))

    high : (f : ℕ) → f ≤ sought R val ft → f < fh → val < upper R f ft
    high zero a l = v
    high (suc f) a l =
        let q : val / (R / ft) < ft - suc f = omega (arith, p.within) in
        omega (arith, (div-lt_iff_lt-mul {k = R / ft} {x = val} {y = ft - suc f} (omega (arith, step))).0 q, mul_comm (R / ft) (ft - suc f))

-- what a read picks is what section 4.1.2 finds
pub pick_general : (m : Model) (R val : ℕ) → Readable m → 2 ^ 23 < R → val < R
    → (lo m (pick m R val) ≤ sought R val (all m)) × (sought R val (all m) < hi m (pick m R val))
pick_general m R val o h v =
    let p : Holds m R val (pick m R val) = pick_holds m R val o h v in
    sought_in R val (lo m (pick m R val)) (hi m (pick m R val)) (all m) h p.proper p.low p.high

-- and no other symbol is found so
pub general_pick : (m : Model) (v R val : ℕ) → Allowed m v → 2 ^ 23 < R → val < R
    → lo m (coded m v) ≤ sought R val (all m) → sought R val (all m) < hi m (coded m v) → pick m R val ≡ coded m v
general_pick m v R val w h l a b =
    let p = part_of R val (lo m (coded m v)) (hi m (coded m v)) (all m) h l (proper m v w) a b in
    pick_is m v R val w h p.0 p.1

-- the range after a cut, in the RFC's words: for fl = 0, and for fl > 0
pub cut_first : (R fh ft : ℕ) → upper R 0 ft - lower R fh ft ≡ R - R / ft * (ft - fh)
cut_first R fh ft = refl

pub cut_later : (R fl fh ft : ℕ) → suc fl < fh → fh ≤ ft → upper R (suc fl) ft - lower R fh ft ≡ R / ft * (fh - suc fl)
cut_later R fl fh ft a b =
    omega (
      arith,
      mul-sub (R / ft) ft fh,
      mul-sub (R / ft) ft (suc fl),
      mul-sub (R / ft) fh (suc fl),
      mul-le-mul_left (R / ft) b,
      mul-le-mul_left (R / ft) a,
    )

-- ---- section 5.1.1

-- a writer with this range and this value, renormalised
abbrev pub coded_to : Writer → ℕ → ℕ → Writer
coded_to w rng val =
    norm_w (norm_w (with_front w (record { rng = rng; val = val; held = w.front.held; run = w.front.run }) w.tail.room w.total))

-- fl = 0: range - range / ft * (ft - fh), and the value as it was
pub code_first : (w : Writer) (fh ft : ℕ) → code_w w 0 fh ft ≡ coded_to w (w.front.rng - w.front.rng / ft * (ft - fh)) w.front.val
code_first w fh ft =
    ap (coded_to w (w.front.rng - w.front.rng / ft * (ft - fh)))
    (let e : w.front.val + (w.front.rng - w.front.rng) ≡ w.front.val = omega arith in e)

-- fl > 0: range / ft * (fh - fl), and value + range - range / ft * (ft - fl)
pub code_later : (w : Writer) (fl fh ft : ℕ) → suc fl < fh → fh ≤ ft
    → code_w w (suc fl) fh ft
    ≡ coded_to w (w.front.rng / ft * (fh - suc fl)) (w.front.val + w.front.rng - w.front.rng / ft * (ft - suc fl))
code_later w fl fh ft a b =
    let R = w.front.rng in
    let v : w.front.val + (R - R / ft * (ft - suc fl)) ≡ w.front.val + R - R / ft * (ft - suc fl)
    = omega (arith, mul-sub (R / ft) ft (suc fl), div-mul-le_self R ft) in
    ap₂ (coded_to w) (cut_later R fl fh ft a b) v
