-- Lists of numbers that are at most m. Assumes nothing.
use Rattle.std.specs.Prelude.{ℕ, ◌≤◌, List, get_or}

abbrev pub AtMost : ℕ → List ℕ → Type 0
AtMost m l = (i : ℕ) → get_or l i 0 ≤ m
