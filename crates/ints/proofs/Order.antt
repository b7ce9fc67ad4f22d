-- Equality and order of whole numbers, from and to what lies above and below 0. Assumes nothing.
use Prim.Native.Nat.{ℕ, suc, ◌+◌, ◌-◌, ◌≤◌, ◌<◌}
use mathlib.Core.Path.{◌≡◌, refl, sym, ap, subst}
use mathlib.Core.Bool.{Bool, true, false}
use native.Mathlib.Omega.{arith}
use native.Mathlib.Nat.{not-le_of_lt}
use lib.Dec.{T}
use borrow.Author.Tests.{ltb-true, ltb-false, leb-true, leb-false}
use lib.IntN.{ℤ, pos, negsuc}
use lib.Signed.{lt_z, le_z, ◌≤ℤ◌, le_z_yes}
use Rattle.ints.specs.Parts.{up, down}

-- one of the two is 0, said so that `omega` can use it
pub parts_alone : (z : ℤ) → (up z ≡ up z - down z) × (down z ≡ down z - up z)
parts_alone (pos n) = (omega arith, omega arith)
parts_alone (negsuc n) = (omega arith, omega arith)

pub no_down : (z : ℤ) → down z ≤ up z → down z ≡ 0
no_down (pos n) h = refl
no_down (negsuc n) h = omega arith

pub parts_same : (a b : ℤ) → up a + down b ≡ up b + down a → a ≡ b
parts_same (pos a) (pos b) h = let e : a ≡ b = omega arith in ap pos e
parts_same (pos a) (negsuc b) h = absurd (never a b h)
  where
    never : (a b : ℕ) → a + suc b ≡ 0 + 0 → ⊥
    never a b h = omega arith
parts_same (negsuc a) (pos b) h = absurd (never a b h)
  where
    never : (a b : ℕ) → 0 + 0 ≡ b + suc a → ⊥
    never a b h = omega arith
parts_same (negsuc a) (negsuc b) h = let e : a ≡ b = omega arith in ap negsuc e

pub le_z_true : (a b : ℤ) → le_z a b ≡ true → up a + down b ≤ up b + down a
le_z_true (pos a) (pos b) e = omega (arith, leb-true a b e)
le_z_true (pos a) (negsuc b) e = absurd (subst T (sym e) tt)
le_z_true (negsuc a) (pos b) e = omega arith
le_z_true (negsuc a) (negsuc b) e = omega (arith, leb-true b a e)

pub le_z_false : (a b : ℤ) → le_z a b ≡ false → up b + down a < up a + down b
le_z_false (pos a) (pos b) e = omega (arith, leb-false a b e)
le_z_false (pos a) (negsuc b) e = omega arith
le_z_false (negsuc a) (pos b) e = absurd (subst T e tt)
le_z_false (negsuc a) (negsuc b) e = omega (arith, leb-false b a e)

pub lt_z_true : (a b : ℤ) → lt_z a b ≡ true → up a + down b < up b + down a
lt_z_true (pos a) (pos b) e = omega (arith, ltb-true a b e)
lt_z_true (pos a) (negsuc b) e = absurd (subst T (sym e) tt)
lt_z_true (negsuc a) (pos b) e = omega arith
lt_z_true (negsuc a) (negsuc b) e = omega (arith, ltb-true b a e)

pub lt_z_false : (a b : ℤ) → lt_z a b ≡ false → up b + down a ≤ up a + down b
lt_z_false (pos a) (pos b) e = omega (arith, ltb-false a b e)
lt_z_false (pos a) (negsuc b) e = omega arith
lt_z_false (negsuc a) (pos b) e = absurd (subst T e tt)
lt_z_false (negsuc a) (negsuc b) e = omega (arith, ltb-false b a e)

pub parts_le : (a b : ℤ) → up a + down b ≤ up b + down a → a ≤ℤ b
parts_le a b h = at (le_z a b) refl
  where
    at : (t : Bool) → le_z a b ≡ t → a ≤ℤ b
    at true e = le_z_yes (subst T (sym e) tt)
    at false e = absurd (not-le_of_lt (le_z_false a b e) h)

pub is_nat : (z : ℤ) → down z ≡ 0 → z ≡ pos (up z)
is_nat (pos n) h = refl
is_nat (negsuc n) h = absurd (never n h)
  where
    never : (n : ℕ) → suc n ≡ 0 → ⊥
    never n h = omega arith
