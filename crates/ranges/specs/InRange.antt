-- Whole numbers in a range. Assumes nothing.
use Rattle.std.specs.Prelude.{Bool, ◌&&◌, ℤ}
use Rattle.std.specs.Int.Signed.{le_z}

-- from lo to hi
abbrev pub in_range : ℤ → ℤ → ℤ → Bool
in_range lo hi z = le_z lo z && le_z z hi
