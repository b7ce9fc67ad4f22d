-- What a record says along each part of a frame's side indices, the tree started from the record itself: symbols that
-- may all be written, and that mean the record again, where the part's fields lie in the ranges that a reader gives
-- (RFC 6716, section 4.2.7; document 01, "Side indices"). Assumes nothing.
use Prim.Native.Nat.{ℕ, zero, suc, ◌+◌, ◌-◌, ◌*◌, ◌/◌, ◌%◌, ◌^◌, ◌≤◌, ◌<◌}
use mathlib.Core.Path.{◌≡◌, refl, sym, ap, ap₂, subst, ◌∙◌}
use mathlib.Core.Bool.{Bool, true, false}
use mathlib.Core.List.{List, [], ◌∷◌}
use native.Mathlib.Nat.{div-add-mod', le_of_suc-le-suc, not-suc-le-zero}
use native.Mathlib.Omega.{arith}
use borrow.Author.Tests.{eqb-false, lt-leb, le-leb, ne_eqb}
use lib.Dec.{eqb, leb}
use lib.IntN.{ℤ, pos, negsuc, nat_abs, ◌-ℤ◌}
use lib.ListN.{length, get_or, set}
use lib.Pow.{pow_pos}
use Rattle.deciding.proofs.Choice.{chosen, by_lt}
use Rattle.ints.proofs.Sums.{diff_parts}
use Rattle.ints.proofs.Order.{parts_same}
use Rattle.sheet.specs.Directory.{row_of}
use Rattle.sheet.proofs.SheetRule.{row_good}
use Rattle.sheet.proofs.Places.{sizes, row_size}
use Rattle.sheet.proofs.Families.{type_stands, gain_stands, first_index_stands, residual_stands, filter_stands}
use Rattle.tree.specs.Asks.{Asks, done}
use Rattle.tree.proofs.Says.{Says, means, says_then, says_of}
use Rattle.silk.specs.declared.Indices.{Indices}
use Rattle.silk.specs.declared.Setting.{Setting}
use Rattle.silk.specs.Record.{with_kind, with_gain, with_gains, with_nlsf, with_nlsfs, with_filter, with_filters, with_lag, with_contour, with_period, with_seed, put_types, put_interp, put_contour, put_period, put_scale, put_seed, Shape}
use Rattle.silk.proofs.RecordLaws.{with_interp, with_scale}
use Rattle.silk.proofs.RowSays.{says_row}
use Rattle.silk.specs.Inner.Indices.{Rate, eight, twelve, sixteen, Subframes, Upto, Kind, first_most, WritesGains, WritesSpectrum, WritesPitch}
use Rattle.silk.proofs.IndexRows.{rate_most, subframes_least, subframes_most, only_two}
use Rattle.silk.specs.IndexSyntax.{kind_of, kind, first_gain, more_gains, gains, book_of, selectors_of, residual_pick, residual, residuals, spectrum, interpolation, absolute_lag, lag, contour, filters, period, scale, relative_lag, pitch, seed}
use Rattle.silk.proofs.IndexParts.{order_most, lag_low_size, low_index, contour_size_lem, contour_index}
use Rattle.silk.proofs.IndexRanges.{PitchRange, InRange}

-- ---- the fields of a part that may be written

module _ {s : Setting} {x : Indices} where
  pub writes_gains : InRange s x → WritesGains s.mode s.subframes x
  writes_gains r = record { first = r.first; others = r.gains }

  pub writes_spectrum : InRange s x → WritesSpectrum s.khz x
  writes_spectrum r = record { index = r.index; residuals = r.residuals }

  pub writes_pitch : PitchRange s x → Upto (16 * s.khz - 1) x.lag → WritesPitch s x
  writes_pitch t l =
      record { lag = l; contour = t.contour; period = t.period; filters = t.filters; scale = t.scale; unscaled = t.unscaled }

-- ---- an entry set to what it is

set_same : (l : List ℤ) (k : ℕ) → k < length l → set l k (get_or l k (pos 0)) ≡ l
set_same [] k h = absurd (not-suc-le-zero h)
set_same (a ∷ l) zero h = refl
set_same (a ∷ l) (suc k) h = ap {B = List ℤ} (λ (m : List ℤ). a ∷ m) (set_same l k (le_of_suc-le-suc h))

entry_same : (l : List ℤ) (k n v : ℕ) → k < length l → Upto n (get_or l k (pos 0)) → v ≡ nat_abs (get_or l k (pos 0)) → set l k (pos v) ≡ l
entry_same l k n v h u e = ap (λ (z : ℤ). set l k z) (ap pos e ∙ sym u.least) ∙ set_same l k h

-- ---- a field set to what it is

pub kind_same : (x : Indices) → Upto 1 x.offset → Upto 2 x.signal → with_kind x (kind_of x) ≡ x
kind_same x o s =
    let a : kind_of x / 2 ≡ nat_abs x.signal = omega (arith, o.most) in
    let b : kind_of x % 2 ≡ nat_abs x.offset = omega (arith, o.most) in
    ap₂ (put_types x) (ap pos a ∙ sym s.least) (ap pos b ∙ sym o.least)

pub gain_same : (x : Indices) (k n v : ℕ) → k < length x.gains → Upto n (get_or x.gains k (pos 0)) → v ≡ nat_abs (get_or x.gains k (pos 0))
    → with_gain x k v ≡ x
gain_same x k n v h u e = ap (with_gains x) (entry_same x.gains k n v h u e)

pub filter_same : (x : Indices) (k n v : ℕ) → k < length x.ltp → Upto n (get_or x.ltp k (pos 0)) → v ≡ nat_abs (get_or x.ltp k (pos 0))
    → with_filter x k v ≡ x
filter_same x k n v h u e = ap (with_filters x) (entry_same x.ltp k n v h u e)

-- the first spectrum index, and a residual
pub index_same : (x : Indices) (n v : ℕ) → 0 < length x.nlsf → Upto n (get_or x.nlsf 0 (pos 0)) → v ≡ nat_abs (get_or x.nlsf 0 (pos 0))
    → with_nlsf x 0 (pos v) ≡ x
index_same x n v h u e = ap (with_nlsfs x) (entry_same x.nlsf 0 n v h u e)

pub residual_same : (x : Indices) (k : ℕ) → k < length x.nlsf → with_nlsf x k (get_or x.nlsf k (pos 0)) ≡ x
residual_same x k h = ap (with_nlsfs x) (set_same x.nlsf k h)

interp_same : (x : Indices) (v : ℕ) → x.interp ≡ pos v → with_interp x v ≡ x
interp_same x v e = ap (put_interp x) (sym e)

scale_same : (x : Indices) (v : ℕ) → x.scale ≡ pos v → with_scale x v ≡ x
scale_same x v e = ap (put_scale x) (sym e)

seed_same : (x : Indices) (v : ℕ) → x.seed ≡ pos v → with_seed x v ≡ x
seed_same x v e = ap (put_seed x) (sym e)

contour_same : (x : Indices) (v : ℕ) → x.contour ≡ pos v → with_contour x v ≡ x
contour_same x v e = ap (put_contour x) (sym e)

pub period_same : (x : Indices) (v : ℕ) → x.period ≡ pos v → with_period x v ≡ x
period_same x v e = ap (put_period x) (sym e)

-- a record equal to x says what x says
same_means : {x y : Indices} → y ≡ x → Says x x (done y)
same_means {x} e = subst (λ (z : Indices). Says x x (done z)) (sym e) means

-- ---- the parts; the tree starts from the record itself, which stays as it is

pub kind_says : (active : ℕ) (x : Indices) → active < 2 → Kind active (kind_of x) → Says x (kind_of x) (kind active)
unfolding kind
kind_says active x h k =
    let e : kind_of x ≡ kind_of x - active * 2 + active * 2 = omega (arith, k.least) in
    says_row (2 + active) (omega arith) (omega (arith, (type_stands active h).size, k.least, k.most))
    (subst (λ (n : ℕ). Says x (kind_of x) (done n)) e means)

pub first_says : (mode signal : ℕ) (x : Indices) → signal < 3 → 0 < length x.gains → Upto (first_most mode) (get_or x.gains 0 (pos 0))
    → Says x x (first_gain mode signal x)
unfolding first_gain sizes
first_says mode signal x p h u =
    let g = nat_abs (get_or x.gains 0 (pos 0)) in
    chosen (λ (t : Asks Indices Indices). Says x x t) (eqb mode 2)
    (λ e. let l : g ≤ 40 = rw e at u.most in
    says_row 7 (omega arith) (omega (arith, row_size 7)) (same_means (gain_same x 0 (first_most mode) g h u refl)))
    (λ e. let l : g ≤ 63 = rw e at u.most in
    says_row (4 + signal) (omega arith) (omega (arith, (gain_stands signal p).size))
    (says_row 45 (omega arith) (omega (arith, row_size 45)) (same_means (gain_same x 0 (first_most mode) (g / 8 * 8 + g % 8) h u (div-add-mod' g 8)))))

more_says : (n k : ℕ) (x : Indices) → k + n ≤ length x.gains → ((j : ℕ) → k ≤ j → j < k + n → Upto 40 (get_or x.gains j (pos 0)))
    → Says x x (more_gains n k x)
unfolding more_gains sizes
more_says zero k x h u = means
more_says (suc n) k x h u =
    let g = nat_abs (get_or x.gains k (pos 0)) in
    let v = u k (omega arith) (omega arith) in
    says_row 7 (omega arith) (omega (arith, v.most, row_size 7))
    (subst (λ (z : Indices). Says x x (more_gains n (suc k) z)) (sym (gain_same x k 40 g (omega arith) v refl))
    (more_says n (suc k) x (omega arith) (λ j a b. u j (omega arith) (omega arith))))

pub gains_says : (mode subframes signal : ℕ) (x : Indices) → Subframes subframes → signal < 3 → Shape x → WritesGains mode subframes x
    → Says x x (gains mode subframes signal x)
unfolding gains
gains_says mode n signal x f p h r =
    let l = subframes_least f in
    let u = subframes_most f in
    says_then _ (first_says mode signal x p (omega (arith, h.gains)) r.first)
    (more_says (n - 1) 1 x (omega (arith, h.gains)) (λ j a b. r.others j a (omega arith)))

pub interpolation_says : (subframes : ℕ) (x : Indices) → Subframes subframes → Upto 4 x.interp → (subframes ≡ 2 → x.interp ≡ pos 4)
    → Says x x (interpolation subframes x)
unfolding interpolation sizes
interpolation_says n x f u fixed =
    chosen (λ (t : Asks Indices Indices). Says x x t) (eqb n 4)
    (λ e. says_row 29 (omega arith) (omega (arith, u.most, row_size 29)) (same_means (interp_same x _ u.least)))
    (λ e. same_means (interp_same x 4 (fixed (only_two f (eqb-false _ _ e)))))

pub seed_says : (x : Indices) → Upto 3 x.seed → Says x x (seed x)
unfolding seed sizes
seed_says x u = says_row 42 (omega arith) (omega (arith, u.most, row_size 42)) (same_means (seed_same x _ u.least))

-- ---- line spectrum

-- a residual from -10 to 10: the ends with an extension, the middle by itself
module _ (k : ℕ) (h : k < 16) where
  high_says : (n : ℕ) → n ≤ 10 → Says (pos n) (pos n) (residual (row_of (12 + k)))
  unfolding residual sizes
  high_says n u =
      by_lt n 4
      (λ l.
      let e : leb 4 n ≡ false = lt-leb 4 n l in
      let a : eqb (n + 4) 0 ≡ false = ne_eqb (n + 4) 0 (λ q. absurd (omega arith)) in
      let b : eqb (n + 4) 8 ≡ false = ne_eqb (n + 4) 8 (λ q. absurd (omega arith)) in
      let c : pos (n + 4) -ℤ pos 4 ≡ pos n = parts_same (pos (n + 4) -ℤ pos 4) (pos n) (omega (arith, diff_parts (pos (n + 4)) (pos 4))) in
      says_row (12 + k) (omega arith) (rw e (omega (arith, (residual_stands k h).size)))
      (rw (e, a, b) (subst (λ (z : ℤ). Says (pos n) (pos n) (done z)) (sym c) means)))
      (λ l.
      let e : leb 4 n ≡ true = le-leb 4 n l in
      let c : pos (4 + (n - 4)) ≡ pos n = ap pos (omega arith) in
      says_row (12 + k) (omega arith) (rw e (omega (arith, (residual_stands k h).size)))
      (rw e (says_row 28 (omega arith) (omega (arith, row_size 28)) (subst (λ (z : ℤ). Says (pos n) (pos n) (done z)) (sym c) means))))

  low_says : (n : ℕ) → n < 10 → Says (negsuc n) (negsuc n) (residual (row_of (12 + k)))
  unfolding residual sizes
  low_says zero u = says_row (12 + k) (omega arith) (omega (arith, (residual_stands k h).size)) means
  low_says (suc zero) u = says_row (12 + k) (omega arith) (omega (arith, (residual_stands k h).size)) means
  low_says (suc (suc zero)) u = says_row (12 + k) (omega arith) (omega (arith, (residual_stands k h).size)) means
  low_says (suc (suc (suc m))) u =
      let n = suc (suc (suc m)) in
      let e : leb 3 n ≡ true = le-leb 3 n (omega arith) in
      let c : negsuc (3 + (suc n - 4)) ≡ negsuc n = ap negsuc (omega arith) in
      says_row (12 + k) (omega arith) (rw e (omega (arith, (residual_stands k h).size)))
      (rw e (says_row 28 (omega arith) (omega (arith, row_size 28)) (subst (λ (z : ℤ). Says (negsuc n) (negsuc n) (done z)) (sym c) means)))

  pub residual_says : (z : ℤ) → nat_abs z ≤ 10 → Says z z (residual (row_of (12 + k)))
  residual_says (pos n) u = high_says n u
  residual_says (negsuc n) u = low_says n (omega arith)

residuals_says : (khz : ℕ) (s : List ℕ) → Rate khz → (n i : ℕ) (x : Indices) → suc i + n ≤ length x.nlsf
    → ((j : ℕ) → suc i ≤ j → j < suc i + n → nat_abs (get_or x.nlsf j (pos 0)) ≤ 10) → Says x x (residuals khz s n i x)
unfolding residuals
residuals_says khz s r zero i x h u = means
residuals_says khz s r (suc n) i x h u =
    says_then _
    (says_of (λ y. get_or y.nlsf (suc i) (pos 0))
    (residual_says (khz / 16 * 8 + residual_pick s i) (omega (arith, rate_most r)) (get_or x.nlsf (suc i) (pos 0))
    (u (suc i) (omega arith) (omega arith))))
    (subst (λ (z : Indices). Says x x (residuals khz s n (suc i) z)) (sym (residual_same x (suc i) (omega arith)))
    (residuals_says khz s r n (suc i) x (omega arith) (λ j a b. u j (omega arith) (omega arith))))

pub spectrum_says : (khz signal : ℕ) (x : Indices) → Rate khz → signal < 3 → Shape x → WritesSpectrum khz x → Says x x (spectrum khz signal x)
unfolding spectrum
spectrum_says khz signal x r p h i =
    let k : khz / 16 * 2 + signal / 2 < 4 = omega (arith, rate_most r) in
    let v = nat_abs (get_or x.nlsf 0 (pos 0)) in
    says_row (8 + (khz / 16 * 2 + signal / 2)) (omega arith) (omega (arith, i.index.most, (first_index_stands (khz / 16 * 2 + signal / 2) k).size))
    (subst (λ (z : Indices). Says x x (residuals khz (selectors_of khz v) (book_of khz).order 0 z))
    (sym (index_same x 31 v (omega (arith, h.nlsf)) i.index refl))
    (residuals_says khz (selectors_of khz v) r (book_of khz).order 0 x (omega (arith, h.nlsf, order_most khz))
    (λ j a b. i.residuals j a (omega arith))))

-- ---- pitch

pub high_part : (khz v : ℕ) → Rate khz → v ≤ 16 * khz - 1 → v / (khz / 2) < 32
high_part khz v eight h = omega arith
high_part khz v twelve h = omega arith
high_part khz v sixteen h = omega arith

pub low_part : (khz v : ℕ) → Rate khz → v % (khz / 2) < khz / 2
low_part khz v eight = omega arith
low_part khz v twelve = omega arith
low_part khz v sixteen = omega arith

absolute_says : (khz : ℕ) (x : Indices) → Rate khz → Upto (16 * khz - 1) x.lag → Says x x (absolute_lag khz x)
unfolding absolute_lag sizes
absolute_says khz x r u =
    let v = nat_abs x.lag in
    says_row 30 (omega arith) (omega (arith, high_part khz v r u.most, row_size 30))
    (says_row (38 + khz / 2 - khz / 2 / 8) (omega (arith, low_index r)) (omega (arith, low_part khz v r, lag_low_size khz r))
    (same_means (ap (with_lag x) (ap pos (div-add-mod' v (khz / 2)) ∙ sym u.least))))

-- the writer's lag is always absolute
pub lag_says : (relative : Bool) (khz : ℕ) (before : ℤ) (x : Indices) → Rate khz → Upto (16 * khz - 1) x.lag → Says x x (lag relative khz before x)
unfolding lag sizes
lag_says true khz before x r u = says_row 31 (omega arith) (omega (arith, row_size 31)) (absolute_says khz x r u)
lag_says false khz before x r u = absolute_says khz x r u

filters_says : (p n k : ℕ) (x : Indices) → p < 3 → k + n ≤ length x.ltp
    → ((j : ℕ) → k ≤ j → j < k + n → Upto (8 * 2 ^ p - 1) (get_or x.ltp j (pos 0)))
    → Says x x (filters p n k x)
unfolding filters
filters_says p zero k x q h u = means
filters_says p (suc n) k x q h u =
    let g = nat_abs (get_or x.ltp k (pos 0)) in
    let v = u k (omega arith) (omega arith) in
    says_row (37 + p) (omega arith) (omega (arith, v.most, (filter_stands p q).size, pow_pos p))
    (subst (λ (z : Indices). Says x x (filters p n (suc k) z)) (sym (filter_same x k (8 * 2 ^ p - 1) g (omega arith) v refl))
    (filters_says p n (suc k) x q (omega arith) (λ j a b. u j (omega arith) (omega arith))))

module _ (s : Setting) (x : Indices) (r : Rate s.khz) (f : Subframes s.subframes) (h : Shape x) (t : WritesPitch s x) where
  pub contour_says : Says x x (contour s.khz s.subframes x)
  unfolding contour
  contour_says =
      let n = 31 + (s.khz / 12 * 2 + s.subframes / 2) in
      let k = contour_index r f in
      says_row n (omega (arith, k))
      (omega (arith, t.contour.most, contour_size_lem s.khz s.subframes r f, (row_good n (omega (arith, k))).some))
      (same_means (contour_same x _ t.contour.least))

  pub period_says : Says x x (period s.subframes x)
  unfolding period sizes
  period_says =
      let p = nat_abs x.period in
      says_row 36 (omega arith) (omega (arith, t.period.most, row_size 36))
      (subst (λ (z : Indices). Says x x (filters p s.subframes 0 z)) (sym (period_same x p t.period.least))
      (filters_says p s.subframes 0 x (omega (arith, t.period.most)) (omega (arith, h.ltp, subframes_most f)) (λ j a b. t.filters j (omega arith))))

  scale_says : Says x x (scale s.mode x)
  unfolding scale sizes
  scale_says =
      chosen (λ (q : Asks Indices Indices). Says x x q) (eqb s.mode 0)
      (λ e. says_row 40 (omega arith) (omega (arith, t.scale.most, row_size 40)) (same_means (scale_same x _ t.scale.least)))
      (λ e. same_means (scale_same x 0 (t.unscaled (eqb-false _ _ e))))

  pub pitch_says : Says x x (pitch s x)
  unfolding pitch
  pitch_says =
      says_then _ (lag_says (relative_lag s) s.khz s.prevlag x r t.lag)
      (says_then _ contour_says (says_then _ period_says scale_says))
