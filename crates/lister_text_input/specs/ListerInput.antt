-- Whether the frame lister's input is whole (document 01). Assumes nothing.
use Rattle.std.specs.Prelude.{ℕ, ◌+◌, Bool, ◌&&◌, List, eqb, length}
use Rattle.sections.specs.Values.{byte_at, pair_at}

-- 9: the first count is 7, and the input ends where the packet does
abbrev pub whole : List ℕ → Bool
whole s = eqb (byte_at s 0) 7 && eqb (length s) (10 + pair_at s 8)
