-- What inner writers along a tree promise; no public contract says it. Assumes nothing.
use Rattle.std.specs.Prelude.{ℕ, ◌+◌, ◌≤◌, ◌≡◌}
use Rattle.entcode.specs.Flat.{Out}
use Rattle.entcode.specs.Inner.Writing.{Core}
use Rattle.tree.specs.Asks.{Asks, symbols}
use Rattle.tree.specs.Telling.{written_all}

-- what y says along the tree is written, q is a writer for the next write, and its total grew by at most n
pub record Told {R A : Type 0} (o : Out) (y : R) (t : Asks R A) (n : ℕ) (q : Out) : Type 0 where
  pub is : q ≡ written_all o (symbols y t)
  pub core : Core q
  pub least : o.state.total ≤ q.state.total
  pub most : q.state.total ≤ o.state.total + n

-- ---- loops: what is said along the whole tree from o is what is said along the rest from p

pub record Midway {R A Q B : Type 0} (o : Out) (y : R) (whole : Asks R A) (n : ℕ) (p : Out) (z : Q) (left : Asks Q B) : Type 0 where
  pub is : written_all o (symbols y whole) ≡ written_all p (symbols z left)
  pub core : Core p
  pub least : o.state.total ≤ p.state.total
  pub most : p.state.total ≤ o.state.total + n
