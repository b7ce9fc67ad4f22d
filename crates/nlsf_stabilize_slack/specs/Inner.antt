-- How the loop of moves holds a vector of whole numbers. Assumes nothing.
use Rattle.std.specs.Prelude.{ℕ, suc, ◌≤◌, ◌<◌, ◌≡◌, List, ◌∷◌, map, ℤ, pos, ◌+ℤ◌, length, get_or, take}
use Rattle.spectrum.specs.Gaps.{Ruled}
use Rattle.spectrum.specs.Inner.{capped}
use Rattle.spectrum.specs.Values.{at, top, total, Within}

-- place j of a vector between the 0 before it and the 32,768 behind it
abbrev pub bounded : List ℤ → ℕ → ℤ
bounded u j = get_or (pos 0 ∷ u) j top

-- u: its values in v, 32,767 at most; in w how far each lies above the sum of the gaps up to it; in s these sums
pub record Held (g u v w s : List ℤ) : Type 0 where
  pub rule : Ruled g
  pub long : length g ≡ suc (length u)
  pub some : 0 < length u
  pub few : length u ≤ 16
  pub near : Within 32768 32768 u
  pub stored : v ≡ map capped u
  pub slacks : length w ≡ 18
  pub above : (j : ℕ) → j < 18 → at w j +ℤ total (take j g) ≡ bounded u j
  pub sums : length s ≡ 18
  pub sum : (j : ℕ) → j ≤ length u → at s j ≡ total (take j g)

-- some vector is held so
pub record Holds (g v w s : List ℤ) : Type 0 where
  pub values : List ℤ
  pub held : Held g values v w s
