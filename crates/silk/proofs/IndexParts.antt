-- What reading each part of a frame's side indices gives, whatever the packet holds: the record with the part's
-- fields changed, and their range (RFC 6716, section 4.2.7). The whole is in IndexRanges. Assumes nothing.
use Prim.Native.Nat.{ℕ, zero, suc, ◌+◌, ◌-◌, ◌*◌, ◌/◌, ◌^◌, ◌≤◌, ◌<◌}
use mathlib.Core.Path.{◌≡◌, refl, sym, ap, subst, ◌∙◌}
use mathlib.Core.Bool.{Bool, true, false}
use mathlib.Core.List.{List, flatten}
use native.Mathlib.Omega.{arith}
use borrow.Author.Tests.{eqb-true, eqb-false}
use lib.Dec.{T, eqb}
use lib.IntN.{ℤ, pos, negsuc, nat_abs, ◌-ℤ◌}
use lib.ListN.{length, get_or, set, length-set}
use lib.Seq.{get_or-set_same, get_or-set_other}
use lib.Signed.{non_neg}
use mir.Syntax.{Width, w32}
use mir.Val.{Fits, hbits, to_z, of_z}
use mir.Facts.{to_z-of_z}
use Rattle.deciding.proofs.Choice.{chosen, by_lt}
use Rattle.ints.specs.Parts.{up, down}
use Rattle.ints.proofs.Sums.{up_diff, down_diff}
use Rattle.sheet.specs.Books.{Book}
use Rattle.sheet.proofs.BooksLaws.{narrow_shaped, wide_shaped}
use Rattle.sheet.specs.Rows.{index_rows}
use Rattle.sheet.specs.Directory.{row_of}
use Rattle.sheet.proofs.Places.{sizes, row_size}
use Rattle.sheet.proofs.Families.{type_stands, gain_stands, first_index_stands, residual_stands, filter_stands}
use Rattle.sheet.proofs.SheetRule.{row_good}
use Rattle.entcode.specs.Models.{tab}
use Rattle.tree.specs.Asks.{Asks, ask, then}
use Rattle.tree.proofs.Outcomes.{Ends, ends, asks, ends_more, ends_in, ends_then, ends_of}
use Rattle.silk.specs.declared.Indices.{Indices}
use Rattle.silk.specs.declared.Setting.{Setting}
use Rattle.silk.specs.Record.{with_gain, with_nlsf, with_lag, with_contour, with_period, with_filter, with_gains, with_nlsfs, with_filters}
use Rattle.silk.proofs.RecordLaws.{with_interp, with_scale}
use Rattle.silk.specs.Inner.Indices.{Rate, eight, twelve, sixteen, Subframes, lag_low_start, contour_start, contour_size, IndexRows, Upto, Kind, first_most}
use Rattle.silk.proofs.IndexRows.{subframes_least, subframes_most, rate_most, index_rows_lem, lag_low_row, contour_row}
use Rattle.silk.specs.IndexSyntax.{kind, first_gain, more_gains, gains, residual_pick, residual, residuals, spectrum, book_of, selectors_of, interpolation, absolute_lag, lag_after, lag, contour, filters, period, scale, relative_lag, pitch, voicing}

-- ---- numbers and lists

pub upto : {n : ℕ} (v : ℕ) → v ≤ n → Upto n (pos v)
upto v h = record { least = refl; most = h }

-- a number from -n to n is kept by a signed type that holds n
pub abs_kept : {n : ℕ} (w : Width) (z : ℤ) → nat_abs z ≤ n → n < 2 ^ hbits w → to_z w (of_z w z) ≡ z
abs_kept w (pos v) h l = to_z-of_z {w = w} (record { sfits = omega arith })
abs_kept w (negsuc v) h l = to_z-of_z {w = w} (record { sfits = omega arith })

-- one from 0 to n is one of 32 bits without a sign
pub upto_fits : {n : ℕ} (z : ℤ) → n < 2 ^ 32 → Upto n z → T (non_neg z) × Fits w32 (nat_abs z)
upto_fits (pos v) l h = (tt, omega (arith, h.most))
upto_fits (negsuc v) l h = let e = h.least in let q : ◌≡◌ {A = ℕ} 0 1 = cc in absurd (omega arith)

-- and its bits are its own number
pub upto_bits : (w : Width) {n : ℕ} {z : ℤ} → Upto n z → of_z w z ≡ nat_abs z
upto_bits w u = ap (of_z w) u.least

-- m is l but for n places from k on, which have P
pub record Filled (P : ℤ → Type 0) (k n : ℕ) (l m : List ℤ) : Type 0 where
  pub inside : (j : ℕ) → k ≤ j → j < k + n → P (get_or m j (pos 0))
  pub before : (j : ℕ) → j < k → get_or m j (pos 0) ≡ get_or l j (pos 0)
  pub behind : (j : ℕ) → k + n ≤ j → get_or m j (pos 0) ≡ get_or l j (pos 0)
  pub size : length m ≡ length l

filled_none : {P : ℤ → Type 0} {k : ℕ} {l : List ℤ} → Filled P k 0 l l
filled_none = record { inside = λ j h i. absurd (omega arith); before = λ j h. refl; behind = λ j h. refl; size = refl }

filled_next : {P : ℤ → Type 0} {k n : ℕ} {l m : List ℤ} (z : ℤ) → P z → k < length l → Filled P (suc k) n (set l k z) m → Filled P k (suc n) l m
filled_next {P} {k} {n} {l} {m} z p h f =
    record {
      inside = λ j a i.
          by_lt k j (λ b. f.inside j (omega arith) (omega arith))
          (λ b. let e : j ≡ k = omega arith in
          rw e (subst P (sym (f.before k (omega arith) ∙ get_or-set_same l k z (pos 0) h)) p));
      before = λ j a. f.before j (omega arith) ∙ get_or-set_other l k j z (pos 0) (omega arith);
      behind = λ j a. f.behind j (omega arith) ∙ get_or-set_other l k j z (pos 0) (omega arith);
      size = f.size ∙ length-set l k z;
    }

-- ---- one row asked

pub row_asks : {R A : Type 0} {P : A → Type 0} {n : ℕ} (k : ℕ) {w : R → ℕ} {f : ℕ → Asks R A}
    → k < 46 → ((v : ℕ) → v < length (row_of k) → Ends P n (f v)) → Ends P (suc n) (ask (tab 8 (row_of k)) w f)
row_asks k h f = asks {m = tab 8 (row_of k)} (row_good k (omega arith)) (omega arith) f

-- ---- the parts

pub kind_ends : (active : ℕ) → active < 2 → Ends (Kind active) 1 (kind active)
unfolding kind
kind_ends active h =
    row_asks (2 + active) (omega arith)
    (λ v i. ends (record { least = omega arith; most = omega (arith, (type_stands active h).size) }))

-- a record that is x but for its gains
pub data Gained (Q : List ℤ → List ℤ → Type 0) (x : Indices) : Indices → Type 0 where
  gained : (l : List ℤ) → Q x.gains l → Gained Q x (with_gains x l)

more_gains_end : (n k : ℕ) (x : Indices) → k + n ≤ length x.gains → Ends (Gained (Filled (Upto 40) k n) x) n (more_gains n k x)
unfolding more_gains sizes
more_gains_end zero k x h = ends (gained x.gains filled_none)
more_gains_end (suc n) k x h =
    row_asks 7 (omega arith) (λ v i. ends_in (λ y p. step v (omega (arith, row_size 7)) y p)
    (more_gains_end n (suc k) (with_gain x k v) (omega (arith, length-set x.gains k (pos v)))))
  where
    step : (v : ℕ) → v ≤ 40 → (y : Indices) → Gained (Filled (Upto 40) (suc k) n) (with_gain x k v) y → Gained (Filled (Upto 40) k (suc n)) x y
    step v l y (gained m f) = gained m (filled_next (pos v) (upto v l) (omega arith) f)

pub first_most_lem : (mode : ℕ) → first_most mode ≤ 63
first_most_lem mode = chosen (λ (n : ℕ). n ≤ 63) (eqb mode 2) (λ e. omega arith) (λ e. omega arith)

first_gain_end : (mode signal : ℕ) (x : Indices) → signal < 3 → 0 < length x.gains
    → Ends (Gained (Filled (Upto (first_most mode)) 0 1) x) 2 (first_gain mode signal x)
unfolding first_gain sizes
first_gain_end mode signal x p h =
    chosen (λ (t : Asks Indices Indices). Ends (Gained (Filled (Upto (first_most mode)) 0 1) x) 2 t) (eqb mode 2)
    (λ e. row_asks 7 (omega arith) (λ v i. let l : v ≤ first_most mode = rw e (omega (arith, row_size 7)) in ends (made v l)))
    (λ e. row_asks (4 + signal) (omega arith) (λ a i. row_asks 45 (omega arith) (λ b j.
    let l : a * 8 + b ≤ first_most mode = rw e (omega (arith, (gain_stands signal p).size, row_size 45)) in ends (made (a * 8 + b) l))))
  where
    made : (v : ℕ) → v ≤ first_most mode → Gained (Filled (Upto (first_most mode)) 0 1) x (with_gain x 0 v)
    made v l = gained (set x.gains 0 (pos v)) (filled_next (pos v) (upto v l) h filled_none)

-- all gains, of l before
pub record GainsRead (mode subframes : ℕ) (l m : List ℤ) : Type 0 where
  pub first : Upto (first_most mode) (get_or m 0 (pos 0))
  pub others : (k : ℕ) → 1 ≤ k → k < subframes → Upto 40 (get_or m k (pos 0))
  pub kept : (k : ℕ) → subframes ≤ k → get_or m k (pos 0) ≡ get_or l k (pos 0)
  pub size : length m ≡ length l

pub gains_end : (mode subframes signal : ℕ) (x : Indices) → Subframes subframes → signal < 3 → length x.gains ≡ 4
    → Ends (Gained (GainsRead mode subframes) x) 5 (gains mode subframes signal x)
unfolding gains
gains_end mode n signal x f p h =
    let l = subframes_least f in
    let u = subframes_most f in
    ends_more {n = 2 + (n - 1)} (omega arith)
    (ends_then (more_gains (n - 1) 1) (first_gain_end mode signal x p (omega arith)) (λ y q. next l u y q))
  where
    both : 2 ≤ n → (a : List ℤ) → Filled (Upto (first_most mode)) 0 1 x.gains a → (y : Indices)
        → Gained (Filled (Upto 40) 1 (n - 1)) (with_gains x a) y → Gained (GainsRead mode n) x y
    both l a c y (gained b d) =
        gained b (record {
          first = subst (Upto (first_most mode)) (sym (d.before 0 (omega arith))) (c.inside 0 (omega arith) (omega arith));
          others = λ k i j. d.inside k i (omega arith);
          kept = λ k i. d.behind k (omega arith) ∙ c.behind k (omega arith);
          size = d.size ∙ c.size;
        })

    next : 2 ≤ n → n ≤ 4 → (y : Indices) → Gained (Filled (Upto (first_most mode)) 0 1) x y → Ends (Gained (GainsRead mode n) x) (n - 1) (more_gains (n - 1) 1 y)
    next l u y (gained a c) = ends_in (λ z q. both l a c z q) (more_gains_end (n - 1) 1 (with_gains x a) (omega (arith, c.size)))

-- ---- line spectrum

abs_parts : (z : ℤ) → nat_abs z ≡ up z + down z
abs_parts (pos n) = omega arith
abs_parts (negsuc n) = omega arith

-- -10 to 10
abbrev Ten : ℤ → Type 0
Ten z = nat_abs z ≤ 10

residual_end : (k : ℕ) → k < 16 → Ends Ten 2 (residual (row_of (12 + k)))
unfolding residual sizes
residual_end k h =
    row_asks (12 + k) (omega arith) (λ v i.
    chosen (λ (t : Asks ℤ ℤ). Ends Ten 1 t) (eqb v 0)
    (λ e. row_asks 28 (omega arith) (λ x j. ends (omega (arith, row_size 28))))
    (λ e. chosen (λ (t : Asks ℤ ℤ). Ends Ten 1 t) (eqb v 8)
    (λ e. row_asks 28 (omega arith) (λ x j. ends (omega (arith, row_size 28))))
    (λ e. ends (omega (
      arith,
      (residual_stands k h).size,
      abs_parts (pos v -ℤ pos 4),
      up_diff (pos v) (pos 4),
      down_diff (pos v) (pos 4),
    )))))

pub data Nlsfed (Q : List ℤ → List ℤ → Type 0) (x : Indices) : Indices → Type 0 where
  nlsfed : (l : List ℤ) → Q x.nlsf l → Nlsfed Q x (with_nlsfs x l)

residuals_ends : (khz : ℕ) (s : List ℕ) → Rate khz → (n i : ℕ) (x : Indices) → suc i + n ≤ length x.nlsf
    → Ends (Nlsfed (Filled Ten (suc i) n) x) (2 * n) (residuals khz s n i x)
unfolding residuals
residuals_ends khz s r zero i x h = ends (nlsfed x.nlsf filled_none)
residuals_ends khz s r (suc n) i x h =
    ends_more {n = 2 + 2 * n} (omega arith)
    (ends_then _ (ends_of (λ y. get_or y.nlsf (suc i) (pos 0)) (residual_end (khz / 16 * 8 + residual_pick s i) (omega (arith, rate_most r))))
    (λ z p. ends_in (λ y q. step z p y q) (residuals_ends khz s r n (suc i) (with_nlsf x (suc i) z) (omega (arith, length-set x.nlsf (suc i) z)))))
  where
    step : (z : ℤ) → Ten z → (y : Indices) → Nlsfed (Filled Ten (suc (suc i)) n) (with_nlsf x (suc i) z) y → Nlsfed (Filled Ten (suc i) (suc n)) x y
    step z p y (nlsfed m f) = nlsfed m (filled_next z p (omega arith) f)

pub record NlsfRead (order : ℕ) (l m : List ℤ) : Type 0 where
  pub first : Upto 31 (get_or m 0 (pos 0))
  pub residuals : (k : ℕ) → 1 ≤ k → k ≤ order → nat_abs (get_or m k (pos 0)) ≤ 10
  pub kept : (k : ℕ) → order < k → get_or m k (pos 0) ≡ get_or l k (pos 0)
  pub size : length m ≡ length l

pub order_most : (khz : ℕ) → (book_of khz).order ≤ 16
order_most khz = chosen (λ (b : Book). b.order ≤ 16) (eqb khz 16) (λ e. omega (arith, wide_shaped.order)) (λ e. omega (arith, narrow_shaped.order))

pub spectrum_end : (khz signal : ℕ) (x : Indices) → Rate khz → signal < 3 → length x.nlsf ≡ 17
    → Ends (Nlsfed (NlsfRead (book_of khz).order) x) 33 (spectrum khz signal x)
unfolding spectrum
spectrum_end khz signal x r p h =
    let k : khz / 16 * 2 + signal / 2 < 4 = omega (arith, rate_most r) in
    row_asks (8 + (khz / 16 * 2 + signal / 2)) (omega arith) (λ v i.
    ends_more {n = 2 * (book_of khz).order} (omega (arith, order_most khz))
    (ends_in (λ y q. both v (omega (arith, (first_index_stands (khz / 16 * 2 + signal / 2) k).size)) y q)
    (residuals_ends khz (selectors_of khz v) r (book_of khz).order 0 (with_nlsf x 0 (pos v))
    (omega (arith, order_most khz, length-set x.nlsf 0 (pos v))))))
  where
    both : (v : ℕ) → v ≤ 31 → (y : Indices) → Nlsfed (Filled Ten 1 (book_of khz).order) (with_nlsf x 0 (pos v)) y → Nlsfed (NlsfRead (book_of khz).order) x y
    both v l y (nlsfed m f) =
        nlsfed m (record {
          first = subst (Upto 31) (sym (f.before 0 (omega arith) ∙ get_or-set_same x.nlsf 0 (pos v) (pos 0) (omega arith))) (upto v l);
          residuals = λ k i j. f.inside k i (omega arith);
          kept = λ k i. f.behind k (omega arith) ∙ get_or-set_other x.nlsf 0 k (pos v) (pos 0) (omega arith);
          size = f.size ∙ length-set x.nlsf 0 (pos v);
        })

-- ---- interpolation

-- 4 for 2 subframes
pub record InterpRead (subframes v : ℕ) : Type 0 where
  pub most : v ≤ 4
  pub fixed : subframes ≡ 2 → v ≡ 4

pub data Interped (subframes : ℕ) (x : Indices) : Indices → Type 0 where
  interped : (v : ℕ) → InterpRead subframes v → Interped subframes x (with_interp x v)

pub interpolation_end : (subframes : ℕ) (x : Indices) → Ends (Interped subframes x) 1 (interpolation subframes x)
unfolding interpolation sizes
interpolation_end n x =
    chosen (λ (t : Asks Indices Indices). Ends (Interped n x) 1 t) (eqb n 4)
    (λ e. let p : n ≡ 4 = eqb-true n 4 e in
    row_asks 29 (omega arith) (λ v i. ends (interped v (record { most = omega (arith, row_size 29); fixed = λ q. absurd (omega arith) }))))
    (λ e. ends (interped 4 (record { most = omega arith; fixed = λ q. refl })))

-- ---- pitch

-- an absolute lag is 0 to 16 x kHz - 1
pub record LagRead (relative : Bool) (khz : ℕ) (z : ℤ) : Type 0 where
  pub absolute : relative ≡ false → Upto (16 * khz - 1) z

data Lagged (relative : Bool) (khz : ℕ) (x : Indices) : Indices → Type 0 where
  lagged : (z : ℤ) → LagRead relative khz z → Lagged relative khz x (with_lag x z)

-- every row has the size that it has in a slice of all of them
all_rows : IndexRows (flatten index_rows)
all_rows = index_rows_lem (flatten index_rows) refl

pub lag_low_size : (khz : ℕ) → Rate khz → length (row_of (38 + khz / 2 - khz / 2 / 8)) ≡ khz / 2
lag_low_size khz r = let t = lag_low_row all_rows khz (lag_low_start khz) r refl in sym (ap length t.is) ∙ t.size

pub contour_size_lem : (khz subframes : ℕ) → Rate khz → Subframes subframes → length (row_of (31 + (khz / 12 * 2 + subframes / 2))) ≡ contour_size khz subframes
contour_size_lem khz n r f =
    let t = contour_row all_rows khz n (contour_start khz n) (contour_size khz n) r f refl refl in sym (ap length t.is) ∙ t.size

lag_most : (khz h l : ℕ) → Rate khz → h < 32 → l < khz / 2 → h * (khz / 2) + l ≤ 16 * khz - 1
lag_most khz h l eight p q = omega arith
lag_most khz h l twelve p q = omega arith
lag_most khz h l sixteen p q = omega arith

pub low_index : {khz : ℕ} → Rate khz → 38 + khz / 2 - khz / 2 / 8 < 46
low_index eight = omega arith
low_index twelve = omega arith
low_index sixteen = omega arith

pub contour_index : {khz n : ℕ} → Rate khz → Subframes n → 31 + (khz / 12 * 2 + n / 2) < 46
contour_index eight f = omega (arith, subframes_most f)
contour_index twelve f = omega (arith, subframes_most f)
contour_index sixteen f = omega (arith, subframes_most f)

absolute_end : (relative : Bool) (khz : ℕ) (x : Indices) → Rate khz → Ends (Lagged relative khz x) 2 (absolute_lag khz x)
unfolding absolute_lag sizes
absolute_end relative khz x r =
    row_asks 30 (omega arith) (λ h i.
    row_asks (38 + khz / 2 - khz / 2 / 8) (low_index r) (λ l j.
    ends (lagged _ (record { absolute = λ e. upto _ (lag_most khz h l r (omega (arith, row_size 30)) (omega (arith, lag_low_size khz r))) }))))

lag_end : (relative : Bool) (khz : ℕ) (before : ℤ) (x : Indices) → Rate khz → Ends (Lagged relative khz x) 3 (lag relative khz before x)
unfolding lag
lag_end true khz before x r =
    row_asks 31 (omega arith) (λ v i.
    chosen (λ (t : Asks Indices Indices). Ends (Lagged true khz x) 2 t) (eqb v 0)
    (λ e. absolute_end true khz x r)
    (λ e. ends (lagged (lag_after before v) (record { absolute = λ q. let z : ◌≡◌ {A = ℕ} 0 1 = cc in absurd (omega arith) }))))
lag_end false khz before x r = ends_more {n = 2} (omega arith) (absolute_end false khz x r)

data Contoured (khz subframes : ℕ) (x : Indices) : Indices → Type 0 where
  contoured : (v : ℕ) → v < contour_size khz subframes → Contoured khz subframes x (with_contour x v)

contour_end : (khz n : ℕ) (x : Indices) → Rate khz → Subframes n → Ends (Contoured khz n x) 1 (contour khz n x)
unfolding contour
contour_end khz n x r f =
    row_asks (31 + (khz / 12 * 2 + n / 2)) (contour_index r f) (λ v i. ends (contoured v (omega (arith, contour_size_lem khz n r f))))

data Filtered (Q : List ℤ → List ℤ → Type 0) (x : Indices) : Indices → Type 0 where
  filtered : (l : List ℤ) → Q x.ltp l → Filtered Q x (with_filters x l)

filters_ends : (p n k : ℕ) (x : Indices) → p < 3 → k + n ≤ length x.ltp → Ends (Filtered (Filled (Upto (8 * 2 ^ p - 1)) k n) x) n (filters p n k x)
unfolding filters
filters_ends p zero k x q h = ends (filtered x.ltp filled_none)
filters_ends p (suc n) k x q h =
    row_asks (37 + p) (omega arith) (λ v i. ends_in (λ y g. step v (omega (arith, (filter_stands p q).size)) y g)
    (filters_ends p n (suc k) (with_filter x k v) q (omega (arith, length-set x.ltp k (pos v)))))
  where
    step : (v : ℕ) → v ≤ 8 * 2 ^ p - 1 → (y : Indices) → Filtered (Filled (Upto (8 * 2 ^ p - 1)) (suc k) n) (with_filter x k v) y
        → Filtered (Filled (Upto (8 * 2 ^ p - 1)) k (suc n)) x y
    step v l y (filtered m f) = filtered m (filled_next (pos v) (upto v l) (omega arith) f)

data Perioded (n : ℕ) (x : Indices) : Indices → Type 0 where
  perioded : (p : ℕ) (l : List ℤ) → p ≤ 2 → Filled (Upto (8 * 2 ^ p - 1)) 0 n x.ltp l → Perioded n x (with_filters (with_period x p) l)

period_end : (n : ℕ) (x : Indices) → n ≤ 4 → length x.ltp ≡ 4 → Ends (Perioded n x) 5 (period n x)
unfolding period sizes
period_end n x u h =
    row_asks 36 (omega arith) (λ p i.
    ends_more {n = n} u
    (ends_in (λ y q. both p (omega (arith, row_size 36)) y q) (filters_ends p n 0 (with_period x p) (omega (arith, row_size 36)) (omega arith))))
  where
    both : (p : ℕ) → p ≤ 2 → (y : Indices) → Filtered (Filled (Upto (8 * 2 ^ p - 1)) 0 n) (with_period x p) y → Perioded n x y
    both p l y (filtered m f) = perioded p m l f

-- 0 but in mode 0
pub record ScaleRead (mode v : ℕ) : Type 0 where
  pub most : v ≤ 2
  pub fixed : (mode ≡ 0 → ⊥) → v ≡ 0

data Scaled (mode : ℕ) (x : Indices) : Indices → Type 0 where
  scaled : (v : ℕ) → ScaleRead mode v → Scaled mode x (with_scale x v)

scale_end : (mode : ℕ) (x : Indices) → Ends (Scaled mode x) 1 (scale mode x)
unfolding scale sizes
scale_end mode x =
    chosen (λ (t : Asks Indices Indices). Ends (Scaled mode x) 1 t) _
    (λ e. row_asks 40 (omega arith) (λ v i. ends (scaled v (record { most = omega (arith, row_size 40); fixed = λ q. absurd (q (eqb-true mode 0 e)) }))))
    (λ e. ends (scaled 0 (record { most = omega arith; fixed = λ q. refl })))

-- the lag of a setting
abbrev LagIn : Setting → ℤ → Type 0
LagIn s = LagRead (relative_lag s) s.khz

-- what a voiced frame reads
pub record PitchRead (s : Setting) (z : ℤ) (c p v : ℕ) (l m : List ℤ) : Type 0 where
  pub lag : LagIn s z
  pub contour : c < contour_size s.khz s.subframes
  pub period : p ≤ 2
  pub filters : Filled (Upto (8 * 2 ^ p - 1)) 0 s.subframes l m
  pub scale : ScaleRead s.mode v

pub data Voiced (signal : ℕ) (s : Setting) (x : Indices) : Indices → Type 0 where
  voiced : signal ≡ 2 → (z : ℤ) (c p v : ℕ) (m : List ℤ) → PitchRead s z c p v x.ltp m
      → Voiced signal s x (with_scale (with_filters (with_period (with_contour (with_lag x z) c) p) m) v)
  unvoiced : (signal ≡ 2 → ⊥) → Voiced signal s x x

pub voicing_end : (signal : ℕ) (s : Setting) (x : Indices) → Rate s.khz → Subframes s.subframes → length x.ltp ≡ 4
    → Ends (Voiced signal s x) 10 (voicing signal s x)
unfolding voicing pitch
voicing_end signal s x r f h =
    chosen (λ (t : Asks Indices Indices). Ends (Voiced signal s x) 10 t) (eqb signal 2)
    (λ e. ends_then {n = 3} {m = 7} _ (lag_end (relative_lag s) s.khz s.prevlag x r) (λ y q. after_lag (eqb-true signal 2 e) y q))
    (λ e. ends (unvoiced (eqb-false signal 2 e)))
  where
    after_scale : signal ≡ 2 → (z : ℤ) → LagIn s z → (c : ℕ) → c < contour_size s.khz s.subframes → (p : ℕ) (m : List ℤ) → p ≤ 2
        → Filled (Upto (8 * 2 ^ p - 1)) 0 s.subframes x.ltp m → (y : Indices)
        → Scaled s.mode (with_filters (with_period (with_contour (with_lag x z) c) p) m) y → Voiced signal s x y
    after_scale e z lz c lc p m lp fm y (scaled v w) =
        voiced e z c p v m (record { lag = lz; contour = lc; period = lp; filters = fm; scale = w })

    after_period : signal ≡ 2 → (z : ℤ) → LagIn s z → (c : ℕ) → c < contour_size s.khz s.subframes → (y : Indices)
        → Perioded s.subframes (with_contour (with_lag x z) c) y → Ends (Voiced signal s x) 1 (scale s.mode y)
    after_period e z lz c lc y (perioded p m lp fm) = ends_in (λ w q. after_scale e z lz c lc p m lp fm w q) (scale_end s.mode _)

    after_contour : signal ≡ 2 → (z : ℤ) → LagIn s z → (y : Indices) → Contoured s.khz s.subframes (with_lag x z) y
        → Ends (Voiced signal s x) 6 (then (period s.subframes y) (scale s.mode))
    after_contour e z lz y (contoured c lc) =
        ends_then {n = 5} {m = 1} _ (period_end s.subframes (with_contour (with_lag x z) c) (subframes_most f) h) (λ w q. after_period e z lz c lc w q)

    after_lag : signal ≡ 2 → (y : Indices) → Lagged (relative_lag s) s.khz x y
        → Ends (Voiced signal s x) 7 (then (contour s.khz s.subframes y) (λ c. then (period s.subframes c) (scale s.mode)))
    after_lag e y (lagged z lz) = ends_then {n = 1} {m = 6} _ (contour_end s.khz s.subframes (with_lag x z) r f) (λ w q. after_contour e z lz w q)
