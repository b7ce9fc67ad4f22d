-- What inner contracts on line spectra say of values, gaps and order; no public contract says it. Assumes nothing.
use Rattle.std.specs.Prelude.{◌+◌, ◌≤◌, ℕ, suc, ◌<◌, ℤ, pos, ◌-ℤ◌, ◌≡◌, ◌&&◌, cond, List, [], ◌∷◌, length}
use Rattle.ints.specs.Parts.{up, down}
use Rattle.std.specs.Int.Signed.{le_z}
use Rattle.spectrum.specs.Values.{at, min_z}

-- a is at most b: an inequality of naturals, which `omega` reads as it stands
infix 50 ◌≼◌
abbrev pub ◌≼◌ : ℤ → ℤ → Type 0
a ≼ b = up a + down b ≤ up b + down a

-- 1 where z is x
unfoldable pub is : ℤ → ℤ → ℕ
is z x = cond (le_z z x && le_z x z) 1 0

unfoldable pub count : ℤ → List ℤ → ℕ
count z [] = 0
count z (x ∷ r) = is z x + count z r

-- the same values, in any order
pub record SameCounts (l m : List ℤ) : Type 0 where
  pub long : length l ≡ length m
  pub counts : (z : ℤ) → count z l ≡ count z m

-- the first n values rise
pub record RisingTo (n : ℕ) (l : List ℤ) : Type 0 where
  pub rises : (k : ℕ) → suc k < n → at l k ≼ at l (suc k)

-- r is the first of n places where f is smallest
pub record First (f : ℕ → ℤ) (n r : ℕ) : Type 0 where
  pub within : r < n
  pub least : (k : ℕ) → k < n → f r ≼ f k
  pub before : (k : ℕ) → k < r → up (f r) + down (f k) < up (f k) + down (f r)

-- the step up from place i to the next
abbrev pub step : List ℤ → ℕ → ℤ
step w i = at w (suc i) -ℤ at w i

-- 32,767 at most, as 16 bits hold it
unfoldable pub capped : ℤ → ℤ
capped z = min_z z (pos 32767)
