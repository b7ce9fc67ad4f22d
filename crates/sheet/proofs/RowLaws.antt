-- The rows of the sheet are the inverses of their probabilities, and the directory finds each by its name (`specs/Statement`),
-- by computation. Before each comes the same as a test of row after row, which is refused with the number of the first row
-- that is wrong. Assumes nothing.
use Prim.Native.Nat.{ℕ, zero, suc}
use mathlib.Core.Path.{◌≡◌, refl}
use mathlib.Core.Bool.{Bool, true, false, cond, ◌&&◌}
use mathlib.Core.List.{List, [], ◌∷◌, map, flatten}
use lib.Dec.{eqb}
use lib.ListN.{get_or}
use Rattle.sheet.specs.Sheet.{directory, low_bit}
use Rattle.sheet.specs.Rows.{rows}
use Rattle.sheet.specs.Directory.{row_of, number_of}
use Rattle.sheet.specs.Probabilities.{chances, inverse}
use Rattle.sheet.specs.Statement.{RowsPrinted, ChancesWhole, SheetWhole, NamesFound}
use Rattle.sheet.proofs.DirectoryLaws.{row_count}

abbrev same : List ℕ → List ℕ → Bool
same [] [] = true
same (x ∷ l) (y ∷ m) = eqb x y && same l m
same [] (y ∷ m) = false
same (x ∷ l) [] = false

-- the first of the n numbers from k on at which a test fails, or the one behind them
abbrev first_wrong : (ℕ → Bool) → ℕ → ℕ → ℕ
first_wrong t k zero = k
first_wrong t k (suc n) = cond (t k) (first_wrong t (suc k) n) k

-- ---- the probabilities

pub row_by_row : first_wrong (λ k. same (row_of k) (inverse (get_or chances k []))) 0 row_count ≡ row_count
unfolding row_of rows chances inverse
row_by_row = refl

pub rows_printed : RowsPrinted
unfolding rows chances inverse
rows_printed = refl

pub chances_whole : ChancesWhole
unfolding chances
chances_whole = refl

-- ---- the directory

pub sheet_whole : SheetWhole
unfolding rows flatten
sheet_whole = refl

pub name_by_name : first_wrong (λ k. eqb (number_of (get_or (map (λ p. p.name) directory) k low_bit)) k) 0 row_count ≡ row_count
unfolding directory
name_by_name = refl

pub names_found : NamesFound
unfolding row_of rows
names_found = refl
