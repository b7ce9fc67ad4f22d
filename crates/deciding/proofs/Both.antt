-- What a true conjunction of tests says. Assumes nothing.
use Prim.Native.Nat.{ℕ, ◌≤◌}
use mathlib.Core.Path.{◌≡◌, refl}
use mathlib.Core.Bool.{Bool, true, false, ◌&&◌}
use borrow.Author.Tests.{leb-true, le-leb}
use lib.Dec.{leb}

pub and_both : (a b : Bool) → a && b ≡ true → (a ≡ true) × (b ≡ true)
and_both true b e = (refl, e)
and_both false b e = (e, cc)

pub both_and : (a b : Bool) → a ≡ true → b ≡ true → a && b ≡ true
both_and true b p q = q
both_and false b p q = p

pub in_range_lem : (lo hi k : ℕ) → leb lo k && leb k hi ≡ true → (lo ≤ k) × (k ≤ hi)
in_range_lem lo hi k e = let p = and_both (leb lo k) (leb k hi) e in (leb-true _ _ p.0, leb-true _ _ p.1)

pub range_in : (lo hi k : ℕ) → lo ≤ k → k ≤ hi → leb lo k && leb k hi ≡ true
range_in lo hi k p q = both_and (leb lo k) (leb k hi) (le-leb lo k p) (le-leb k hi q)
