-- What the answer for an accepted packet keeps, as far as its text needs it: no public contract speaks of it. Assumes
-- nothing.
use Rattle.std.specs.Prelude.{ℕ, ◌+◌, ◌≤◌, ◌<◌, get_or}
use Rattle.framing.specs.declared.Packet.{Packet}

-- few frames, small numbers
pub record Small (a : Packet) : Type 0 where
  pub config : a.config ≤ 11
  pub arrangement : a.arrangement ≤ 3
  pub count : a.count ≤ 12
  pub inside : (k : ℕ) → k < a.count → get_or a.start k 0 + get_or a.size k 0 ≤ 16384
