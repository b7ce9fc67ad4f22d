-- Sums, differences and products of whole numbers, above and below 0. Assumes nothing.
use Prim.Native.Nat.{ℕ, zero, suc, ◌+◌, ◌-◌, ◌*◌}
use mathlib.Core.Path.{◌≡◌, refl, ◌∙◌}
use mathlib.Core.Bool.{Bool, true, false, cond}
use native.Mathlib.Omega.{arith}
use lib.Dec.{ltb}
use borrow.Author.Tests.{ltb-true, ltb-false}
use lib.IntN.{ℤ, pos, negsuc, neg_ℤ, sub_ℕ, ◌+ℤ◌, ◌-ℤ◌, ◌*ℤ◌}
use Rattle.ints.specs.Parts.{up, down}

-- the difference of two naturals, as `lib.IntN` has it: one of two by the test a < b
at_test : (a b : ℕ) (t : Bool) → ltb a b ≡ t → up (cond t (negsuc (b - suc a)) (pos (a - b))) + b ≡ a + down (cond t (negsuc (b - suc a)) (pos (a - b)))
at_test a b true e = omega (arith, ltb-true a b e)
at_test a b false e = omega (arith, ltb-false a b e)

parts_subℕ : (a b : ℕ) → up (sub_ℕ a b) + b ≡ a + down (sub_ℕ a b)
parts_subℕ a b = at_test a b (ltb a b) refl

-- a sum, as an equation of naturals; and exactly, by the difference of naturals that stops at 0
pub sum_parts : (a b : ℤ) → up (a +ℤ b) + (down a + down b) ≡ up a + up b + down (a +ℤ b)
sum_parts (pos a) (pos b) = omega arith
sum_parts (pos a) (negsuc b) = omega (arith, parts_subℕ a (suc b))
sum_parts (negsuc a) (pos b) = omega (arith, parts_subℕ b (suc a))
sum_parts (negsuc a) (negsuc b) = omega arith

pub up_sum : (a b : ℤ) → up (a +ℤ b) ≡ (up a + up b) - (down a + down b)
up_sum a b = at (a +ℤ b) (sum_parts a b)
  where
    at : (s : ℤ) → up s + (down a + down b) ≡ up a + up b + down s → up s ≡ (up a + up b) - (down a + down b)
    at (pos n) e = omega arith
    at (negsuc n) e = omega arith

pub down_sum : (a b : ℤ) → down (a +ℤ b) ≡ (down a + down b) - (up a + up b)
down_sum a b = at (a +ℤ b) (sum_parts a b)
  where
    at : (s : ℤ) → up s + (down a + down b) ≡ up a + up b + down s → down s ≡ (down a + down b) - (up a + up b)
    at (pos n) e = omega arith
    at (negsuc n) e = omega arith

pub up_neg : (z : ℤ) → up (neg_ℤ z) ≡ down z
up_neg (pos zero) = refl
up_neg (pos (suc n)) = refl
up_neg (negsuc n) = refl

pub down_neg : (z : ℤ) → down (neg_ℤ z) ≡ up z
down_neg (pos zero) = refl
down_neg (pos (suc n)) = refl
down_neg (negsuc n) = refl

pub diff_parts : (a b : ℤ) → up (a -ℤ b) + (down a + up b) ≡ up a + down b + down (a -ℤ b)
diff_parts a b = omega (arith, sum_parts a (neg_ℤ b), up_neg b, down_neg b)

pub up_diff : (a b : ℤ) → up (a -ℤ b) ≡ (up a + down b) - (down a + up b)
up_diff a b = omega (arith, up_sum a (neg_ℤ b), up_neg b, down_neg b)

pub down_diff : (a b : ℤ) → down (a -ℤ b) ≡ (down a + up b) - (up a + down b)
down_diff a b = omega (arith, down_sum a (neg_ℤ b), up_neg b, down_neg b)

-- ---- products with a number that is not negative

pub up_times : (z : ℤ) (k : ℕ) → up (z *ℤ pos k) ≡ up z * k
up_times (pos n) k = refl
up_times (negsuc n) k = up_neg (pos (suc n * k)) ∙ omega arith

pub down_times : (z : ℤ) (k : ℕ) → down (z *ℤ pos k) ≡ down z * k
down_times (pos n) k = omega arith
down_times (negsuc n) k = down_neg (pos (suc n * k))
