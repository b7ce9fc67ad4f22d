-- A whole number kept in 16 bits: the one number from -32,768 to 32,767 that differs from it by a multiple of 65,536.
-- Assumes nothing.
use Rattle.std.specs.Prelude.{ℕ, ◌-◌, ◌%◌, ℤ, pos, negsuc, ◌+ℤ◌, ◌-ℤ◌}

-- the remainder that is never negative
abbrev pub mod_z : ℤ → ℕ → ℕ
mod_z (pos n) m = n % m
mod_z (negsuc n) m = m - 1 - n % m

unfoldable pub wrap16 : ℤ → ℤ
wrap16 z = pos (mod_z (z +ℤ pos 32768) 65536) -ℤ pos 32768
