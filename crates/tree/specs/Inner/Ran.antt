-- What inner readers along a tree promise; no public contract says it. Assumes nothing.
use Rattle.std.specs.Prelude.{ℕ, ◌+◌, ◌≤◌, ◌≡◌, List}
use Rattle.entcode.specs.declared.Dec.{Dec}
use Rattle.entcode.specs.Inner.Reading.{Core}
use Rattle.tree.specs.Asks.{Asks, got, run}

-- the run of the tree, a reader for the next read, and a total that grew by at most n
pub record Ran {R A : Type 0} (b : List ℕ) (d : Dec) (t : Asks R A) (n : ℕ) (x : A) (z : Dec) : Type 0 where
  pub is : run b d t ≡ got x z
  pub core : Core b z
  pub least : d.total ≤ z.total
  pub most : z.total ≤ d.total + n
