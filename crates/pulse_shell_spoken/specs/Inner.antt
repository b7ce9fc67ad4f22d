-- The parts of a block that have pulses, and how code stores them. Assumes nothing.
use Rattle.std.specs.Prelude.{ℕ, ◌<◌, ◌≤◌, ◌+◌, ◌*◌, length, get_or, ◌≡◌, cond, eqb}
use mathlib.Core.List.{List, [], ◌∷◌, flatten}
use Rattle.sheet.specs.Rows.{pulse_rows}
use Rattle.sheet.specs.Inner.{Stands}
use Rattle.pulse_shell_splits.specs.Inner.{Part, all_of, left_of}

abbrev pub no_part : Part
no_part = record { table = 0; places = [] }

-- a part of 2^n places with at most m pulses
pub record Within (n m : ℕ) (q : Part) : Type 0 where
  pub table : q.table < n
  pub most : all_of q ≤ m

unfoldable pub spoken : List Part → List Part
spoken [] = []
spoken (q ∷ qs) = cond (eqb (all_of q) 0) (spoken qs) (q ∷ spoken qs)

-- a part with pulses, and what is stored of it: where its row starts, all pulses, and those in the left half
pub record Stored (start all left : ℕ) (q : Part) : Type 0 where
  pub within : Within 4 16 q
  pub some : 1 ≤ all_of q
  pub stands : Stands (58 + q.table * 16 + all_of q) (flatten pulse_rows) start (all_of q + 1)
  pub all_is : all ≡ all_of q
  pub left_is : left ≡ left_of q
  pub left_most : left_of q ≤ all_of q

-- three arrays of 15
pub record Sized (start all left : List ℕ) : Type 0 where
  pub start_size : length start ≡ 15
  pub all_size : length all ≡ 15
  pub left_size : length left ≡ 15

-- the parts qs are stored at their front
pub record Gathered (qs : List Part) (start all left : List ℕ) (n : ℕ) : Type 0 where
  pub count : n ≡ length qs
  pub most : n ≤ 15
  pub sizes : Sized start all left
  pub at : (j : ℕ) → j < n → Stored (get_or start j 0) (get_or all j 0) (get_or left j 0) (get_or qs j no_part)
