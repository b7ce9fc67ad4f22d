-- What reading a frame's pulses leaves: the excitation, its pulses in the slice, and a reader for the next read. Assumes nothing.
use Rattle.std.specs.Prelude.{ℕ, ◌≡◌, ℤ}
use mathlib.Core.List.{List, flatten}
use Rattle.entcode.specs.declared.Dec.{Dec}
use Rattle.tree.specs.Inner.Growth.{of_symbols}
use Rattle.tree.specs.Inner.Ran.{Ran}
use Rattle.silk.specs.PulseSyntax.{Excitation, excitation}

pub record Excited (b : List ℕ) (d : Dec) (signal offset n : ℕ) (s : List ℤ) (z : Dec) : Type 0 where
  pub value : Excitation
  pub ran : Ran b d (excitation signal offset n) (of_symbols 4041) value z
  pub is : s ≡ flatten value.pulses
