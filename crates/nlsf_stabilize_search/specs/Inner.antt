-- What the search finds of slacks w. Assumes nothing.
use Rattle.std.specs.Prelude.{ℕ, suc, ◌+◌, ◌≤◌, ◌<◌, List, ℤ}
use Rattle.ints.specs.Parts.{up, down}
use Rattle.spectrum.specs.Inner.{◌≼◌, First, step}
use Rattle.spectrum.specs.Values.{at}

-- i is the first place of the smallest of the steps 0 to n, and of some more
pub record Searched (w : List ℤ) (n i : ℕ) : Type 0 where
  pub to : ℕ
  pub past : n < to
  pub most : to ≤ 17
  pub first : First (step w) to i

-- none of the first m steps is below 0
pub record UpTo (m : ℕ) (w : List ℤ) : Type 0 where
  pub each : (k : ℕ) → k < m → at w k ≼ at w (suc k)

-- one of them is
pub record Falls (m : ℕ) (w : List ℤ) : Type 0 where
  pub place : ℕ
  pub within : place < m
  pub less : up (at w (suc place)) + down (at w place) < up (at w place) + down (at w (suc place))
