-- Where each row stands: the header's, the side indices' and the pulses' rows are three parts of the sheet, and code lends
-- a part of such a part. Assumes nothing.
use Prim.Native.Nat.{ℕ, ◌+◌, ◌-◌, ◌≤◌, ◌<◌}
use mathlib.Core.Path.{◌≡◌, refl, sym, ap, ◌∙◌}
use mathlib.Core.Bool.{Bool, true}
use mathlib.Core.List.{List, [], ◌++◌, map, flatten}
use native.Mathlib.Omega.{arith}
use borrow.Author.Tests.{eqb-true}
use lib.Dec.{eqb}
use lib.ListN.{length, get_or, take, drop, get_or-map}
use lib.Seq.{get_or-take, get_or-drop}
use Rattle.lists.proofs.EveryLaws.{every_below, below_at}
use Rattle.lists.proofs.Rows.{start_of, row_part, row_within}
use Rattle.sheet.specs.Sheet.{sheet, directory}
use Rattle.sheet.specs.Rows.{rows, header_rows, index_rows, pulse_rows}
use Rattle.sheet.specs.Directory.{row_of}
use Rattle.sheet.specs.Inner.{Stands}

-- how many entries each row has
unfoldable pub sizes : List ℕ
unfolding directory
sizes = map (λ p. p.size) directory

-- where it starts in its part of the sheet
unfoldable pub starts : List ℕ
unfolding directory
starts =
    map (λ p. p.start) (take 2 directory) ++ map (λ p. p.start - 10) (take 44 (drop 2 directory))
    ++ map (λ p. p.start - 566) (drop 46 directory)

-- a slice that equals the list holds its rows
pub stands_in : {k a n : ℕ} {l m : List ℕ} → l ≡ m → Stands k m a n → Stands k l a n
stands_in e s = rw e s

-- the part of it from a to e is the row
pub lent : {k a n : ℕ} {l : List ℕ} (e : ℕ) → Stands k l a n → e ≡ a + n → take (e - a) (drop a l) ≡ row_of k
lent {k} {a} {n} {l} e s p = let q : e - a ≡ n = omega arith in rw q s.part

-- ---- the rows of each part

all_sized : map length rows ≡ sizes
unfolding rows sizes
all_sized = refl

pub row_size : (k : ℕ) → length (row_of k) ≡ get_or sizes k 0
unfolding row_of
row_size k = sym (get_or-map length rows k []) ∙ ap (λ (l : List ℕ). get_or l k 0) all_sized

-- the starts of the rows from base on are those of the list
abbrev starts_ok : List (List ℕ) → ℕ → Bool
starts_ok rs base = every_below (λ j. eqb (start_of rs j) (get_or starts (base + j) 0)) (length rs)

stands : (rs : List (List ℕ)) (base : ℕ) → ((j : ℕ) → j < length rs → get_or rs j [] ≡ row_of (base + j)) → starts_ok rs base ≡ true
    → (j k : ℕ) → j < length rs → base + j ≡ k → Stands k (flatten rs) (get_or starts k 0) (get_or sizes k 0)
stands rs base same e j k h p =
    let t = below_at (λ j. eqb (start_of rs j) (get_or starts (base + j) 0)) (length rs) e j h in
    let a : start_of rs j ≡ get_or starts k 0 = eqb-true _ _ t ∙ ap (λ (m : ℕ). get_or starts m 0) p in
    let r : get_or rs j [] ≡ row_of k = same j h ∙ ap row_of p in
    let n : length (get_or rs j []) ≡ get_or sizes k 0 = ap length r ∙ row_size k in
    record { part = rw (← n, ← a) (row_part rs j h ∙ r); size = row_size k; within = rw (← n, ← a) (row_within rs j h) }

header_counted : length header_rows ≡ 2
unfolding header_rows rows
header_counted = refl

index_counted : length index_rows ≡ 44
unfolding index_rows rows
index_counted = refl

pulse_counted : length pulse_rows ≡ 120
unfolding pulse_rows rows
pulse_counted = refl

header_row : (j : ℕ) → j < length header_rows → get_or header_rows j [] ≡ row_of (0 + j)
unfolding row_of header_rows
header_row j h = let e : 0 + j ≡ j = omega arith in rw e (get_or-take 2 rows j [] (omega (arith, header_counted)))

index_row : (j : ℕ) → j < length index_rows → get_or index_rows j [] ≡ row_of (2 + j)
unfolding row_of index_rows
index_row j h = get_or-take 44 (drop 2 rows) j [] (omega (arith, index_counted)) ∙ get_or-drop 2 rows j []

pulse_row : (j : ℕ) → j < length pulse_rows → get_or pulse_rows j [] ≡ row_of (46 + j)
unfolding row_of pulse_rows
pulse_row j h = get_or-drop 46 rows j []

-- ---- where each row stands

header_starts : starts_ok header_rows 0 ≡ true
unfolding header_rows rows starts
header_starts = refl

pub header_stands : (k : ℕ) → k < 2 → Stands k (flatten header_rows) (get_or starts k 0) (get_or sizes k 0)
header_stands k h = stands header_rows 0 header_row header_starts k k (omega (arith, header_counted)) (omega arith)

index_starts : starts_ok index_rows 2 ≡ true
unfolding index_rows rows starts
index_starts = refl

pub index_stands : (k : ℕ) → 2 ≤ k → k < 46 → Stands k (flatten index_rows) (get_or starts k 0) (get_or sizes k 0)
index_stands k l h = stands index_rows 2 index_row index_starts (k - 2) k (omega (arith, index_counted)) (omega arith)

pulse_starts : starts_ok pulse_rows 46 ≡ true
unfolding pulse_rows rows starts
pulse_starts = refl

pub pulse_stands : (k : ℕ) → 46 ≤ k → k < 166 → Stands k (flatten pulse_rows) (get_or starts k 0) (get_or sizes k 0)
pulse_stands k l h = stands pulse_rows 46 pulse_row pulse_starts (k - 46) k (omega (arith, pulse_counted)) (omega arith)

-- ---- the parts of the sheet

pub header_part : take 10 sheet ≡ flatten header_rows
unfolding header_rows rows flatten
header_part = refl

pub index_part : take 556 (drop 10 sheet) ≡ flatten index_rows
unfolding index_rows rows flatten
index_part = refl

pub pulse_part : take 909 (drop 566 sheet) ≡ flatten pulse_rows
unfolding pulse_rows rows flatten
pulse_part = refl
