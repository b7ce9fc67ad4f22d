-- What the test of a number in a range decides. Assumes nothing.
use Prim.Native.Nat.{ℕ, suc, ◌≤◌}
use mathlib.Core.Path.{◌≡◌, refl, sym, subst}
use native.Mathlib.Omega.{arith}
use borrow.Author.Tests.{leb-true, le-leb}
use lib.Dec.{T, leb}
use lib.IntN.{ℤ, pos, negsuc, nat_abs}
use Rattle.deciding.proofs.Both.{and_both, both_and, in_range_lem, range_in}
use Rattle.deciding.specs.Inner.{Decides}
use Rattle.ranges.specs.InRange.{in_range}

-- a to b
pub between_decides : (a b : ℕ) (z : ℤ) → Decides (in_range (pos a) (pos b) z) ((z ≡ pos (nat_abs z)) × (a ≤ nat_abs z) × (nat_abs z ≤ b))
between_decides a b (pos k) =
    record {
      sure = λ e. let p = in_range_lem a b k e in (refl, p.0, p.1);
      seen = λ h. range_in a b k h.1 h.2;
    }
between_decides a b (negsuc k) =
    record { sure = λ e. absurd (subst T (sym e) tt); seen = λ h. let e = h.0 in let q : ◌≡◌ {A = ℕ} 0 1 = cc in absurd (omega arith) }

-- -n to n, of an n above 0
pub around_decides : (n : ℕ) (z : ℤ) → Decides (in_range (negsuc n) (pos (suc n)) z) (nat_abs z ≤ suc n)
around_decides n (pos k) = record { sure = λ e. leb-true k (suc n) e; seen = λ h. le-leb k (suc n) h }
around_decides n (negsuc k) =
    record {
      sure = λ e. omega (arith, leb-true k n (and_both (leb k n) _ e).0);
      seen = λ h. both_and (leb k n) _ (le-leb k n (omega arith)) refl;
    }
