-- What is told of the room of a packet's frames: no public contract speaks of it. Assumes nothing.
use Rattle.std.specs.Prelude.{ℕ, ◌/◌, ◌%◌, cond, Option, Some, None, eqb, leb}
use Rattle.packet_share.specs.declared.Span.{Span}

-- None where a rule is broken
abbrev pub none : Option Span
none = None

abbrev pub span : ℕ → ℕ → Option Span
span h n = Some (record { head = h; last = n })

-- a last frame that is not too long
abbrev pub closed : ℕ → ℕ → Option Span
closed h n = cond (leb n 1275) (span h n) none

-- equal shares of the room
abbrev pub shared : ℕ → ℕ → ℕ → Option Span
shared h n room = cond (eqb (room % n) 0) (closed h (room / n)) none
