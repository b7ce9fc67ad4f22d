-- Every row is an inverse table of scale 8 (document 01: no row rises, and each ends in 0), and each of its symbols
-- has a probability above 0: two tests computed over the whole sheet, and laws that give them to each row. Assumes
-- nothing.
use Prim.Native.Nat.{ℕ, zero, suc, ◌^◌, ◌<◌}
use mathlib.Core.Path.{◌≡◌, refl}
use mathlib.Core.Bool.{Bool, true, ◌&&◌}
use mathlib.Core.List.{List, [], ◌∷◌}
use native.Mathlib.Nat.{le_of_suc-le-suc, not-suc-le-zero}
use native.Mathlib.Omega.{arith}
use borrow.Author.Tests.{ltb-true}
use lib.Dec.{ltb}
use lib.ListN.{length, get_or, drop}
use Rattle.deciding.proofs.Both.{and_both}
use Rattle.lists.specs.Every.{every}
use Rattle.lists.proofs.EveryLaws.{every_at}
use Rattle.icdf.specs.Rule.{Icdf, Writable, before}
use Rattle.icdf.specs.Test.{icdf_ok}
use Rattle.icdf.proofs.RuleLaws.{icdf_of}
use Rattle.sheet.specs.Rows.{rows}
use Rattle.sheet.proofs.DirectoryLaws.{row_count}
use Rattle.sheet.specs.Directory.{row_of, count_row, last_count_row}

row_counted : length rows ≡ row_count
unfolding rows
row_counted = refl

-- ---- the rule of tables

all_good : every (icdf_ok 8) rows ≡ true
unfolding rows icdf_ok
all_good = refl

pub row_good : (k : ℕ) → k < row_count → Icdf 8 (row_of k)
unfolding row_of
row_good k h = icdf_of 8 (get_or rows k []) refl (every_at (icdf_ok 8) rows [] all_good k (omega (arith, row_counted)))

-- ---- probabilities above 0

-- each entry is below the one before it, and the first below m
abbrev drops_from : ℕ → List ℕ → Bool
drops_from m [] = true
drops_from m (x ∷ t) = ltb x m && drops_from x t

all_drop : every (drops_from (2 ^ 8)) rows ≡ true
unfolding rows
all_drop = refl

drops_later : (x : ℕ) (t : List ℕ) → drops_from x t ≡ true → (i : ℕ) → i < length t → get_or t i 0 < get_or (x ∷ t) i 0
drops_later x [] e i h = absurd (not-suc-le-zero h)
drops_later x (y ∷ t) e zero h = ltb-true y x (and_both (ltb y x) (drops_from y t) e).0
drops_later x (y ∷ t) e (suc i) h = drops_later y t (and_both (ltb y x) (drops_from y t) e).1 i (le_of_suc-le-suc h)

drops_at : (t : List ℕ) → drops_from (2 ^ 8) t ≡ true → (i : ℕ) → i < length t → get_or t i 0 < before 8 t i
drops_at t e zero h = drops_later (2 ^ 8) t e zero h
drops_at t e (suc i) h = drops_later (2 ^ 8) t e (suc i) h

pub row_writable : (k i : ℕ) → k < row_count → i < length (row_of k) → Writable 8 (row_of k) i
unfolding row_of
row_writable k i h l =
    let d = every_at (drops_from (2 ^ 8)) rows [] all_drop k (omega (arith, row_counted)) in
    record { inside = l; chance = drops_at (get_or rows k []) d i l }

-- ---- the last count row (section 4.2.7.8.2)

pub last_count_is : last_count_row ≡ drop 1 (count_row 9)
unfolding row_of rows
last_count_is = refl
