-- The rows of the side indices in a slice that holds them one after the other: which part of it is which row (RFC
-- 6716, section 4.2.7). A caller lends the slice down, and each reader or writer cuts its row. Assumes nothing.
use Prim.Native.Nat.{ℕ, ◌+◌, ◌-◌, ◌*◌, ◌/◌, ◌^◌, ◌≤◌, ◌<◌}
use mathlib.Core.Path.{◌≡◌, refl, ap, ◌∙◌}
use mathlib.Core.List.{List, flatten}
use native.Mathlib.Omega.{arith}
use lib.ListN.{length, take, drop}
use Rattle.sheet.specs.Rows.{index_rows}
use Rattle.sheet.specs.Directory.{row_of}
use Rattle.sheet.specs.Inner.{Stands}
use Rattle.sheet.proofs.Places.{starts, sizes, index_stands, stands_in, lent}
use Rattle.sheet.proofs.Families.{type_stands, gain_stands, first_index_stands, residual_stands, filter_stands}
use Rattle.sheet.proofs.SheetRule.{row_good, row_writable}
use Rattle.silk.specs.Inner.Indices.{Rate, eight, twelve, sixteen, Subframes, two, four, lag_low_start, contour_start, contour_size, IndexRows, Row}

-- ---- the numbers of a frame

pub subframes_most : {n : ℕ} → Subframes n → n ≤ 4
subframes_most two = omega arith
subframes_most four = omega arith

pub subframes_least : {n : ℕ} → Subframes n → 2 ≤ n
subframes_least two = omega arith
subframes_least four = omega arith

pub only_two : {n : ℕ} → Subframes n → (n ≡ 4 → ⊥) → n ≡ 2
only_two two h = refl
only_two four h = absurd (h refl)

pub rate_most : {khz : ℕ} → Rate khz → khz / 16 ≤ 1
rate_most eight = omega arith
rate_most twelve = omega arith
rate_most sixteen = omega arith

pub lag_low_within : (khz : ℕ) → Rate khz → (lag_low_start khz + khz / 2 ≤ 556) × (khz / 2 ≤ 8)
unfolding lag_low_start
lag_low_within khz eight = (omega arith, omega arith)
lag_low_within khz twelve = (omega arith, omega arith)
lag_low_within khz sixteen = (omega arith, omega arith)

pub contour_within : (khz subframes : ℕ) → Rate khz → Subframes subframes
    → (contour_start khz subframes + contour_size khz subframes ≤ 468) × (contour_size khz subframes ≤ 34)
unfolding contour_start contour_size
contour_within khz subframes eight two = (omega arith, omega arith)
contour_within khz subframes eight four = (omega arith, omega arith)
contour_within khz subframes twelve two = (omega arith, omega arith)
contour_within khz subframes twelve four = (omega arith, omega arith)
contour_within khz subframes sixteen two = (omega arith, omega arith)
contour_within khz subframes sixteen four = (omega arith, omega arith)

-- ---- what a reader or a writer of indices is lent

pub index_rows_lem : (l : List ℕ) → l ≡ flatten index_rows → IndexRows l
unfolding index_rows flatten
index_rows_lem l e = record { is = e; size = ap length e }

-- ---- its parts

row_at : {l : List ℕ} {k a n : ℕ} (e : ℕ) → IndexRows l → k < 46 → Stands k (flatten index_rows) a n → e ≡ a + n → Row (row_of k) n (take (e - a) (drop a l))
row_at {l} {k} {a} {n} e h p s q =
    let i : take (e - a) (drop a l) ≡ row_of k = lent e (stands_in h.is s) q in
    record {
      is = i;
      good = rw i (row_good k (omega arith));
      size = ap length i ∙ s.size;
      writable = λ v q. rw i (row_writable k v (omega arith) (omega (arith, s.size)));
    }

module _ {l : List ℕ} (h : IndexRows l) where
  pub delta_gain_row : Row (row_of 7) 41 (take 41 (drop 30 l))
  unfolding starts sizes
  delta_gain_row = row_at 71 h (omega arith) (index_stands 7 (omega arith) (omega arith)) refl

  pub gain_low_row : Row (row_of 45) 8 (take 8 (drop 548 l))
  unfolding starts sizes
  gain_low_row = row_at 556 h (omega arith) (index_stands 45 (omega arith) (omega arith)) refl

  pub extension_row : Row (row_of 28) 7 (take 7 (drop 343 l))
  unfolding starts sizes
  extension_row = row_at 350 h (omega arith) (index_stands 28 (omega arith) (omega arith)) refl

  pub interpolation_row_lem : Row (row_of 29) 5 (take 5 (drop 350 l))
  unfolding starts sizes
  interpolation_row_lem = row_at 355 h (omega arith) (index_stands 29 (omega arith) (omega arith)) refl

  pub lag_row : Row (row_of 30) 32 (take 32 (drop 355 l))
  unfolding starts sizes
  lag_row = row_at 387 h (omega arith) (index_stands 30 (omega arith) (omega arith)) refl

  pub delta_lag_row : Row (row_of 31) 21 (take 21 (drop 387 l))
  unfolding starts sizes
  delta_lag_row = row_at 408 h (omega arith) (index_stands 31 (omega arith) (omega arith)) refl

  pub period_row : Row (row_of 36) 3 (take 3 (drop 468 l))
  unfolding starts sizes
  period_row = row_at 471 h (omega arith) (index_stands 36 (omega arith) (omega arith)) refl

  pub scale_row_lem : Row (row_of 40) 3 (take 3 (drop 527 l))
  unfolding starts sizes
  scale_row_lem = row_at 530 h (omega arith) (index_stands 40 (omega arith) (omega arith)) refl

  pub seed_row : Row (row_of 42) 4 (take 4 (drop 533 l))
  unfolding starts sizes
  seed_row = row_at 537 h (omega arith) (index_stands 42 (omega arith) (omega arith)) refl

  -- ---- families

  pub type_row : (active : ℕ) → active < 2 → Row (row_of (2 + active)) (2 + active * 2) (take (active * 2 + (2 + active * 2) - active * 2) (drop (active * 2) l))
  type_row active p = row_at (active * 2 + (2 + active * 2)) h (omega arith) (type_stands active p) refl

  pub gain_row : (signal : ℕ) → signal < 3 → Row (row_of (4 + signal)) 8 (take (6 + signal * 8 + 8 - (6 + signal * 8)) (drop (6 + signal * 8) l))
  gain_row signal p = row_at (6 + signal * 8 + 8) h (omega arith) (gain_stands signal p) refl

  pub first_index_row : (k : ℕ) → k < 4 → Row (row_of (8 + k)) 32 (take (71 + k * 32 + 32 - (71 + k * 32)) (drop (71 + k * 32) l))
  first_index_row k p = row_at (71 + k * 32 + 32) h (omega arith) (first_index_stands k p) refl

  pub residual_row : (k : ℕ) → k < 16 → Row (row_of (12 + k)) 9 (take (199 + k * 9 + 9 - (199 + k * 9)) (drop (199 + k * 9) l))
  residual_row k p = row_at (199 + k * 9 + 9) h (omega arith) (residual_stands k p) refl

  -- the filters of a period start at 463 more than their number n
  pub filter_row : (period n : ℕ) → period < 3 → n ≡ 8 * 2 ^ period → Row (row_of (37 + period)) n (take (463 + n + n - (463 + n)) (drop (463 + n) l))
  filter_row period n p e = rw e (row_at (463 + 8 * 2 ^ period + 8 * 2 ^ period) h (omega arith) (filter_stands period p) refl)

  pub lag_low_row : (khz a : ℕ) → Rate khz → a ≡ lag_low_start khz → Row (row_of (38 + khz / 2 - khz / 2 / 8)) (khz / 2) (take (a + khz / 2 - a) (drop a l))
  unfolding lag_low_start starts sizes
  lag_low_row khz a eight e = rw e (row_at 537 h (omega arith) (index_stands 42 (omega arith) (omega arith)) refl)
  lag_low_row khz a twelve e = rw e (row_at 548 h (omega arith) (index_stands 44 (omega arith) (omega arith)) refl)
  lag_low_row khz a sixteen e = rw e (row_at 556 h (omega arith) (index_stands 45 (omega arith) (omega arith)) refl)

  pub contour_row : (khz subframes a n : ℕ) → Rate khz → Subframes subframes → a ≡ contour_start khz subframes → n ≡ contour_size khz subframes
      → Row (row_of (31 + (khz / 12 * 2 + subframes / 2))) n (take (a + n - a) (drop a l))
  unfolding contour_start contour_size starts sizes
  contour_row khz subframes a n eight two e f = rw (e, f) (row_at 411 h (omega arith) (index_stands 32 (omega arith) (omega arith)) refl)
  contour_row khz subframes a n eight four e f = rw (e, f) (row_at 422 h (omega arith) (index_stands 33 (omega arith) (omega arith)) refl)
  contour_row khz subframes a n twelve two e f = rw (e, f) (row_at 434 h (omega arith) (index_stands 34 (omega arith) (omega arith)) refl)
  contour_row khz subframes a n twelve four e f = rw (e, f) (row_at 468 h (omega arith) (index_stands 35 (omega arith) (omega arith)) refl)
  contour_row khz subframes a n sixteen two e f = rw (e, f) (row_at 434 h (omega arith) (index_stands 34 (omega arith) (omega arith)) refl)
  contour_row khz subframes a n sixteen four e f = rw (e, f) (row_at 468 h (omega arith) (index_stands 35 (omega arith) (omega arith)) refl)
