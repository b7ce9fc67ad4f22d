-- Laws of the larger, the smaller and the held number, put so that `omega` can use them. Assumes nothing.
use Prim.Native.Nat.{◌+◌, ◌*◌, ◌≤◌, ◌<◌}
use mathlib.Core.Path.{◌≡◌, refl, sym, ap, ◌∙◌}
use mathlib.Core.Bool.{Bool, true, false, cond}
use native.Mathlib.Omega.{arith}
use native.Mathlib.Nat.{not-le_of_lt}
use lib.Dec.{T}
use lib.IntN.{ℤ, pos, negsuc}
use lib.Signed.{lt_z, le_z, ◌≤ℤ◌}
use Rattle.ints.proofs.Order.{le_z_true, le_z_false, lt_z_true, lt_z_false}
use Rattle.ints.specs.Parts.{up, down}
use Rattle.deciding.proofs.Choice.{chosen}
use Rattle.spectrum.specs.Inner.{◌≼◌}
use Rattle.spectrum.specs.Values.{max_z, min_z, held, half}

module _ {ℓ κ} {A : Type ℓ} (P : A → Type κ) {x y : A} (a b : ℤ) where
  pub chosen_le_z : (a ≼ b → P x) → (b ≼ a → P y) → P (cond (le_z a b) x y)
  chosen_le_z f g = chosen P (le_z a b) (λ e. f (le_z_true a b e)) (λ e. g (omega (arith, le_z_false a b e)))

  pub chosen_lt_z : (up a + down b < up b + down a → P x) → (b ≼ a → P y) → P (cond (lt_z a b) x y)
  chosen_lt_z f g = chosen P (lt_z a b) (λ e. f (lt_z_true a b e)) (λ e. g (lt_z_false a b e))

-- a test, from its fact
pub le_le_z : (a b : ℤ) → a ≼ b → le_z a b ≡ true
le_le_z a b h = go (le_z a b) refl
  where
    go : (t : Bool) → le_z a b ≡ t → t ≡ true
    go true e = refl
    go false e = absurd (not-le_of_lt (le_z_false a b e) h)

pub lt_le_z : (a b : ℤ) → up b + down a < up a + down b → le_z a b ≡ false
lt_le_z a b h = go (le_z a b) refl
  where
    go : (t : Bool) → le_z a b ≡ t → t ≡ false
    go true e = absurd (not-le_of_lt h (le_z_true a b e))
    go false e = refl

pub le_parts : {a b : ℤ} → a ≤ℤ b → a ≼ b
le_parts {a} {b} h = go (le_z a b) refl h.le
  where
    go : (t : Bool) → le_z a b ≡ t → T t → a ≼ b
    go true e p = le_z_true a b e
    go false e p = absurd p

-- ---- the larger, the smaller, and a number held between two

pub max_right : (a b : ℤ) → b ≼ max_z a b
unfolding max_z
max_right a b = chosen_le_z (λ (z : ℤ). b ≼ z) a b (λ h. omega arith) (λ h. h)

pub min_left : (a b : ℤ) → min_z a b ≼ a
unfolding min_z
min_left a b = chosen_le_z (λ (z : ℤ). z ≼ a) a b (λ h. omega arith) (λ h. h)

pub min_right : (a b : ℤ) → min_z a b ≼ b
unfolding min_z
min_right a b = chosen_le_z (λ (z : ℤ). z ≼ b) a b (λ h. h) (λ h. omega arith)

pub min_least : (a b c : ℤ) → c ≼ a → c ≼ b → c ≼ min_z a b
unfolding min_z
min_least a b c p q = chosen_le_z (λ (z : ℤ). c ≼ z) a b (λ h. p) (λ h. q)

pub held_least : (lo hi z : ℤ) → lo ≼ hi → lo ≼ held lo hi z
unfolding held
held_least lo hi z p =
    chosen_lt_z (λ (x : ℤ). lo ≼ x) hi z (λ h. p) (λ h. chosen_lt_z (λ (x : ℤ). lo ≼ x) z lo (λ k. omega arith) (λ k. k))

pub held_most : (lo hi z : ℤ) → lo ≼ hi → held lo hi z ≼ hi
unfolding held
held_most lo hi z p =
    chosen_lt_z (λ (x : ℤ). x ≼ hi) hi z (λ h. omega arith) (λ h. chosen_lt_z (λ (x : ℤ). x ≼ hi) z lo (λ k. p) (λ k. h))

-- what lies below hi and below z lies below z held
pub held_above : (lo hi z c : ℤ) → c ≼ hi → c ≼ z → c ≼ held lo hi z
unfolding held
held_above lo hi z c p q =
    chosen_lt_z (λ (x : ℤ). c ≼ x) hi z (λ h. p) (λ h. chosen_lt_z (λ (x : ℤ). c ≼ x) z lo (λ k. omega arith) (λ k. q))

-- held, by its tests
pub held_hi : (lo hi z : ℤ) → lt_z hi z ≡ true → hi ≡ held lo hi z
unfolding held
held_hi lo hi z e = sym (ap (λ (t : Bool). cond t hi (cond (lt_z z lo) lo z)) e)

pub held_lo : (lo hi z : ℤ) → lt_z hi z ≡ false → lt_z z lo ≡ true → lo ≡ held lo hi z
unfolding held
held_lo lo hi z e f = sym (ap (λ (t : Bool). cond t hi (cond (lt_z z lo) lo z)) e ∙ ap (λ (t : Bool). cond t lo z) f)

pub held_own : (lo hi z : ℤ) → lt_z hi z ≡ false → lt_z z lo ≡ false → z ≡ held lo hi z
unfolding held
held_own lo hi z e f = sym (ap (λ (t : Bool). cond t hi (cond (lt_z z lo) lo z)) e ∙ ap (λ (t : Bool). cond t lo z) f)

-- half of a number that is not negative
pub half_nat : (z : ℤ) → down z ≡ 0 → (down (half z) ≡ 0) × ((up (half z) * 2 ≤ up z) × (up z ≤ up (half z) * 2 + 1))
half_nat (pos n) h = (refl, (omega arith, omega arith))
half_nat (negsuc n) h = absurd (omega arith)
