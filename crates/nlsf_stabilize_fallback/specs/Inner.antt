-- What the fallback's way upward asks of gaps. Assumes nothing.
use Rattle.std.specs.Prelude.{ℕ, ◌≤◌, ◌≡◌, List, ℤ}
use Rattle.ints.specs.Parts.{up, down}
use Rattle.spectrum.specs.Values.{at}

-- no gap is negative, and the first fits 16 bits
pub record NoneBelow (g : List ℤ) : Type 0 where
  pub none : (k : ℕ) → down (at g k) ≡ 0
  pub first : up (at g 0) ≤ 32767
