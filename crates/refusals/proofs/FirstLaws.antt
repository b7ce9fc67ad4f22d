-- Laws of `specs/First`. Assumes nothing.
use Rattle.std.proofs.Common.{ℕ, zero, suc, ◌≡◌, ◌∙◌, refl, arith}
use mathlib.Core.Path.{ap₂}
use borrow.Author.Tests.{ne_eqb}
use Rattle.refusals.specs.First.{first_of}

-- the number that a call computes first, by what its two checks are
pub number : {n a b x y : ℕ} → n ≡ first_of a b → a ≡ x → b ≡ y → n ≡ first_of x y
number e p q = e ∙ ap₂ first_of p q

first_some : (a b : ℕ) → first_of (suc a) b ≡ suc a
unfolding first_of
first_some a b = rw (ne_eqb (suc a) 0 (λ e. omega (arith, e)))

-- none refused: neither did
pub first_none : (a b : ℕ) → first_of a b ≡ 0 → (a ≡ 0) × (b ≡ 0)
unfolding first_of
first_none zero b e = (refl, e)
first_none (suc a) b e = omega (arith, e, first_some a b)

pub none_first : (a b : ℕ) → a ≡ 0 → b ≡ 0 → first_of a b ≡ 0
unfolding first_of
none_first a b p q = rw (p, q)

-- of three checks
pub first_first : (a b c : ℕ) → first_of a (first_of b c) ≡ first_of (first_of a b) c
unfolding first_of
first_first zero b c = refl
first_first (suc a) b c = rw (first_some a b, first_some a c) (first_some a (first_of b c))
