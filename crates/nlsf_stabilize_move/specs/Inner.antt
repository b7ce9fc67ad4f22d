-- Where the slacks of a pair meet. Assumes nothing.
use Rattle.std.specs.Prelude.{ℤ, pos, ◌+ℤ◌, ◌-ℤ◌, ◌*ℤ◌}
use Rattle.spectrum.specs.Values.{held, half}

-- what halving a gap and doubling it leaves: 1 of an odd one, else 0
abbrev pub odd : ℤ → ℤ
odd gap = gap -ℤ half gap *ℤ pos 2

unfoldable pub meeting : ℤ → ℤ → ℤ → ℤ → ℤ
meeting a b d room = held (pos 0) (room +ℤ d) (half (a +ℤ b +ℤ pos 1 +ℤ d))
