-- Rows of the pulses as parts of the slice that is lent: which part is which row, that it can be read, and how many
-- symbols it has. Assumes nothing.
use Prim.Native.Nat.{ℕ, ◌+◌, ◌-◌, ◌*◌, ◌≤◌, ◌<◌, min}
use mathlib.Core.Path.{◌≡◌, refl, sym, ap, ◌∙◌}
use mathlib.Core.Bool.{Bool, true, false, cond}
use mathlib.Core.List.{List, [], ◌∷◌, flatten}
use native.Mathlib.Omega.{arith}
use borrow.Author.Tests.{eq-eqb, eqb-true}
use lib.Dec.{eqb}
use lib.ListN.{length, take, drop}
use lib.Seq.{drop-drop}
use Rattle.deciding.proofs.Choice.{chosen}
use Rattle.icdf.specs.Rule.{Icdf, Writable}
use Rattle.sheet.specs.Rows.{pulse_rows}
use Rattle.sheet.specs.Directory.{row_of, count_row, last_count_row, low_bit_row, sign_row}
use Rattle.sheet.proofs.Places.{sizes, starts, row_size, stands_in, lent, pulse_stands}
use Rattle.sheet.proofs.Families.{rate_stands, count_stands, sign_stands}
use Rattle.sheet.proofs.SheetRule.{row_good, row_writable, last_count_is}
use Rattle.silk.specs.PulseSyntax.{later_row, sign_row_of}
use Rattle.silk.specs.Inner.Pulses.{PulseRows}

pub pulse_rows_lem : (l : List ℕ) → l ≡ flatten pulse_rows → PulseRows l
unfolding pulse_rows flatten
pulse_rows_lem l e = record { is = e; size = ap length e }

-- ---- counts

pub count_in : (l : List ℕ) (level : ℕ) → PulseRows l → level < 10 → take (18 + level * 18 + 18 - (18 + level * 18)) (drop (18 + level * 18) l) ≡ count_row level
count_in l level r h = lent _ (stands_in r.is (count_stands level h)) refl

pub count_size : (level : ℕ) → level < 10 → length (count_row level) ≡ 18
count_size level h = (count_stands level h).size

-- where the row after j low bits starts
abbrev pub later_at : ℕ → ℕ
later_at j = cond (eqb j 10) 181 180

one_later : (m : List ℕ) → take 17 (drop 1 m) ≡ drop 1 (take 18 m)
one_later [] = refl
one_later (x ∷ m) = refl

pub later_in : (l : List ℕ) (j i : ℕ) → PulseRows l → i ≡ later_at j → take (198 - i) (drop i l) ≡ later_row j
later_in l j i r e = rw e (go (eqb j 10))
  where
    ninth : take 18 (drop 180 l) ≡ count_row 9
    ninth = (stands_in r.is (count_stands 9 (omega arith))).part

    go : (t : Bool) → take (198 - cond t 181 180) (drop (cond t 181 180) l) ≡ cond t last_count_row (count_row 9)
    go true = ap (take 17) (sym (drop-drop 1 180 l)) ∙ one_later (drop 180 l) ∙ ap (drop 1) ninth ∙ sym last_count_is
    go false = ninth

pub later_within : (j i : ℕ) → i ≡ later_at j → i ≤ 198
later_within j i e = rw e (go (eqb j 10))
  where
    go : (t : Bool) → cond t 181 180 ≤ 198
    go true = omega arith
    go false = omega arith

-- each count of 0 to 17 may be written, after ten low bits each of 0 to 16
pub count_writable : (level v : ℕ) → level < 10 → v ≤ 17 → Writable 8 (count_row level) v
count_writable level v h l = row_writable (48 + level) v (omega arith) (omega (arith, count_size level h))

pub later_writable : (j v : ℕ) → v ≤ 17 → (j ≡ 10 → v ≤ 16) → Writable 8 (later_row j) v
unfolding sizes
later_writable j v l h =
    chosen (λ (r : List ℕ). Writable 8 r v) (eqb j 10) (λ t. row_writable 58 v (omega arith) (omega (arith, row_size 58, h (eqb-true j 10 t))))
    (λ t. row_writable 57 v (omega arith) (omega (arith, row_size 57)))

-- 18 symbols, after ten low bits 17
pub record Later (j : ℕ) : Type 0 where
  pub good : Icdf 8 (later_row j)
  pub most : length (later_row j) ≤ 18
  pub tenth : j ≡ 10 → length (later_row j) ≡ 17

pub later : (j : ℕ) → Later j
unfolding sizes
later j =
    record {
      good = good (eqb j 10);
      most = most (eqb j 10);
      tenth = λ e. ap (λ (t : Bool). length (cond t last_count_row (count_row 9))) (eq-eqb j 10 e) ∙ row_size 58;
    }
  where
    good : (t : Bool) → Icdf 8 (cond t last_count_row (count_row 9))
    good true = row_good 58 (omega arith)
    good false = row_good 57 (omega arith)

    most : (t : Bool) → length (cond t last_count_row (count_row 9)) ≤ 18
    most true = omega (arith, row_size 58)
    most false = omega (arith, row_size 57)

-- ---- rate level, low bits, signs

pub rate_in : (l : List ℕ) (k : ℕ) → PulseRows l → k < 2 → take (k * 9 + 9 - k * 9) (drop (k * 9) l) ≡ row_of (46 + k)
rate_in l k r h = lent _ (stands_in r.is (rate_stands k h)) refl

pub low_bit_in : (l : List ℕ) → PulseRows l → take 2 (drop 823 l) ≡ low_bit_row
unfolding sizes starts
low_bit_in l r = (stands_in r.is (pulse_stands 123 (omega arith) (omega arith))).part

pub low_bit_size : length low_bit_row ≡ 2
unfolding sizes
low_bit_size = row_size 123

pub sign_in : (l : List ℕ) (k : ℕ) → PulseRows l → k < 42 → take (825 + k * 2 + 2 - (825 + k * 2)) (drop (825 + k * 2) l) ≡ sign_row k
sign_in l k r h = lent _ (stands_in r.is (sign_stands k h)) refl

-- the sign row of a block with c pulses before low bits, which starts at r
module _ (signal offset c : ℕ) (h : signal ≤ 2) (k : offset ≤ 1) where
  abbrev sign_no : ℕ
  sign_no = 7 * (offset + 2 * signal) + min c 6

  few : sign_no < 42
  few = omega arith

  pub sign_good : Icdf 8 (sign_row_of signal offset c)
  sign_good = row_good (124 + sign_no) (omega (arith, few))

  pub sign_writable : (v : ℕ) → v < 2 → Writable 8 (sign_row_of signal offset c) v
  sign_writable v l = row_writable (124 + sign_no) v (omega (arith, few)) (omega (arith, (sign_stands sign_no few).size))

  module _ (r : ℕ) (e : r ≡ 825 + sign_no * 2) where
    pub sign_ends : r + 2 ≤ 909
    sign_ends = omega (arith, few)

    pub sign_lent : (l : List ℕ) → PulseRows l → take (r + 2 - r) (drop r l) ≡ sign_row_of signal offset c
    sign_lent l p = rw e (sign_in l sign_no p few)
