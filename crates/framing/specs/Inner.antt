-- What an accepted call of writing keeps, by its numbers: laws and inner contracts speak of it, no public contract
-- does. Assumes nothing.
use Rattle.std.specs.Prelude.{ℕ, ◌*◌, ◌≤◌, ◌≡◌, true, List, length}
use Rattle.lists.specs.Every.{every}
use Rattle.framing.specs.Toc.{duration}
use Rattle.framing.specs.Lengths.{total}
use Rattle.framing.specs.Rules.{fits_frame}
use Rattle.framing.specs.Writing.{shortest}

-- the buffer's length, configuration, number of bytes of the frames, sizes, the packet's length
pub record Writable (len c n : ℕ) (ns : List ℕ) (m : ℕ) : Type 0 where
  pub buffer : len ≤ 16384
  pub bytes : n ≡ total ns
  pub long : shortest ns ≤ m
  pub room : m ≤ len
  pub some : 1 ≤ length ns
  pub small : every fits_frame ns ≡ true
  pub time : length ns * duration c ≤ 1200
  pub config : c ≤ 11
