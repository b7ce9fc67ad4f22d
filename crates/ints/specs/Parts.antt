-- How far a whole number lies above 0, and how far below: one of the two is 0. `omega` reads naturals alone, so the
-- laws of this room say what each operation on whole numbers does to the two. Assumes nothing.
use Rattle.std.specs.Prelude.{ℕ, suc, ℤ, pos, negsuc}

abbrev pub up : ℤ → ℕ
up (pos n) = n
up (negsuc n) = 0

abbrev pub down : ℤ → ℕ
down (pos n) = 0
down (negsuc n) = suc n
