-- What the reader's steps ask and give, where that is less than a whole sound state. Assumes nothing.
use Rattle.std.specs.Prelude.{ℕ, ◌+◌, ◌^◌, ◌<◌, ◌≤◌, List, length}
use Rattle.entcode.specs.declared.Dec.{Dec}

-- between a cut and the end of renormalising; the total has room for the turns to come, put so that it is linear
pub record Turning (b : List ℕ) (d : Dec) : Type 0 where
  pub short : length b ≤ 1275
  pub place : d.offs ≤ length b
  pub held : d.rem < 256
  pub inside : d.val < d.rng
  pub few : d.total ≤ 2 ^ 31 + d.rng

-- a window that may be filled
pub record Windowed (b : List ℕ) (d : Dec) : Type 0 where
  pub short : length b ≤ 1275
  pub back : d.endoffs ≤ length b
  pub used : d.wbits ≤ 32
  pub slim : d.window < 2 ^ d.wbits
