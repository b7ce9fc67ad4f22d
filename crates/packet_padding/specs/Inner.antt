-- A piece of a packet, put at a place: no public contract speaks of it. Assumes nothing.
use Rattle.std.specs.Prelude.{ℕ, List, length}
use Rattle.numerals.specs.Inner.{Put}

-- a text is put at a place of l, and the place behind it is n
abbrev pub Puts : List ℕ → ℕ → List ℕ → List ℕ → ℕ → Type 0
Puts l at t m n = Put (length t) l at t m n
