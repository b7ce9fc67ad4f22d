-- What holds of both values holds of the one that a test chooses. The property stands over the value, so that no test appears in it.
-- Assumes nothing.
use Prim.Native.Nat.{ℕ, ◌≤◌, ◌<◌}
use mathlib.Core.Path.{◌≡◌, refl}
use mathlib.Core.Bool.{Bool, true, false, cond}
use borrow.Author.Tests.{ltb-true, ltb-false, leb-true, leb-false}
use lib.Dec.{leb, ltb}

module _ {ℓ κ} {A : Type ℓ} (P : A → Type κ) {x y : A} where
  pub chosen : (t : Bool) → (t ≡ true → P x) → (t ≡ false → P y) → P (cond t x y)
  chosen true f g = f refl
  chosen false f g = g refl

  pub chosen_lt : (a b : ℕ) → (a < b → P x) → (b ≤ a → P y) → P (cond (ltb a b) x y)
  chosen_lt a b f g = chosen (ltb a b) (λ e. f (ltb-true a b e)) (λ e. g (ltb-false a b e))

  pub chosen_le : (a b : ℕ) → (a ≤ b → P x) → (b < a → P y) → P (cond (leb a b) x y)
  chosen_le a b f g = chosen (leb a b) (λ e. f (leb-true a b e)) (λ e. g (leb-false a b e))

-- two cases, by the order of two numbers
pub by_lt {ℓ} : {A : Type ℓ} (a b : ℕ) → (a < b → A) → (b ≤ a → A) → A
by_lt {A} a b f g = go (ltb a b) refl
  where
    go : (t : Bool) → ltb a b ≡ t → A
    go true e = f (ltb-true a b e)
    go false e = g (ltb-false a b e)
