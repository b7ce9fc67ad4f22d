-- Laws of `specs/AtMost`. Assumes nothing.
use Prim.Native.Nat.{ℕ, zero, suc, ◌≤◌}
use mathlib.Core.List.{List, [], ◌∷◌, ◌++◌}
use native.Mathlib.Omega.{arith}
use lib.ListN.{set, replicate}
use Rattle.lists.specs.AtMost.{AtMost}

pub at_most_zeros : (m n : ℕ) → AtMost m (replicate n 0)
at_most_zeros m zero i = omega arith
at_most_zeros m (suc n) zero = omega arith
at_most_zeros m (suc n) (suc i) = at_most_zeros m n i

pub at_most_set : (m : ℕ) (l : List ℕ) (k v : ℕ) → AtMost m l → v ≤ m → AtMost m (set l k v)
at_most_set m [] k v h p i = h i
at_most_set m (x ∷ l) zero v h p zero = p
at_most_set m (x ∷ l) zero v h p (suc i) = h (suc i)
at_most_set m (x ∷ l) (suc k) v h p zero = h zero
at_most_set m (x ∷ l) (suc k) v h p (suc i) = at_most_set m l k v (λ j. h (suc j)) p i

pub at_most_append : (m : ℕ) (a b : List ℕ) → AtMost m a → AtMost m b → AtMost m (a ++ b)
at_most_append m [] b p q i = q i
at_most_append m (x ∷ a) b p q zero = p zero
at_most_append m (x ∷ a) b p q (suc i) = at_most_append m a b (λ j. p (suc j)) q i
