-- Where a row stands in a constant, as inner contracts say it. Assumes nothing.
use Rattle.std.specs.Prelude.{ℕ, ◌+◌, ◌≤◌, ◌≡◌, List, length, take, drop}
use Rattle.sheet.specs.Directory.{row_of}

-- row k stands in l from a on, with n entries
pub record Stands (k : ℕ) (l : List ℕ) (a n : ℕ) : Type 0 where
  pub part : take n (drop a l) ≡ row_of k
  pub size : length (row_of k) ≡ n
  pub within : a + n ≤ length l
