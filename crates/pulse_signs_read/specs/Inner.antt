-- The places of a block that have a pulse, gathered. Assumes nothing.
use Rattle.std.specs.Prelude.{ℕ, zero, suc, ◌<◌, ◌≤◌, ◌≡◌, List, ℤ, pos, nat_abs, get_or}

abbrev pub mag : List ℤ → ℕ → ℕ
mag s i = nat_abs (get_or s i (pos 0))

-- no pulse from place a up to place b
abbrev pub Bare : List ℤ → ℕ → ℕ → Type 0
Bare s a b = (i : ℕ) → a ≤ i → i < b → mag s i ≡ 0

-- p is the first place with a pulse, from place a on
pub record Next (s : List ℤ) (a p : ℕ) : Type 0 where
  pub from : a ≤ p
  pub bare : Bare s a p
  pub some : 1 ≤ mag s p

-- the place behind the first t of `at`
abbrev pub behind : List ℕ → ℕ → ℕ
behind at zero = 0
behind at (suc t) = suc (get_or at t 0)

-- the first n of `at` are the places below k that have a pulse
pub record Gathered (s : List ℤ) (at : List ℕ) (n k : ℕ) : Type 0 where
  pub count : n ≤ k
  pub below : (t : ℕ) → t < n → get_or at t 0 < k
  pub next : (t : ℕ) → t < n → Next s (behind at t) (get_or at t 0)
  pub to : behind at n ≤ k
  pub rest : Bare s (behind at n) k
