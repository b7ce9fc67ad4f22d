-- The entries of the two rows. Assumes nothing.
use Prim.Native.Nat.{ℕ, zero, suc, ◌+◌, ◌/◌, ◌<◌}
use mathlib.Core.Path.{◌≡◌, sym, ap, ◌∙◌}
use mathlib.Core.List.{List}
use native.Mathlib.Nat.{add-zero, le_of_suc-le-suc, not-suc-le-zero}
use native.Mathlib.Omega.{arith}
use lib.ListN.{length, get_or}
use Rattle.nlsf_weights.specs.Inner.{from, share_row, start_of, root_row}

from_at : (f : ℕ → ℕ) (k n i j : ℕ) → i < n → k + i ≡ j → get_or (from f k n) i 0 ≡ f j
from_at f k zero i j h e = absurd (not-suc-le-zero h)
from_at f k (suc n) zero j h e = ap f (sym (add-zero k) ∙ e)
from_at f k (suc n) (suc i) j h e = from_at f (suc k) n i j (le_of_suc-le-suc h) (omega arith)

module _ {row : List ℕ} where
  pub shares_long : row ≡ share_row → length row ≡ 48
  unfolding share_row
  shares_long e = ap length e

  pub share_in : row ≡ share_row → (d : ℕ) → d < 48 → get_or row d 0 ≡ 1024 / d
  unfolding share_row
  share_in e d h = ap (λ (l : List ℕ). get_or l d 0) e ∙ from_at (λ n. 1024 / n) 0 48 d d h (omega arith)

  pub roots_long : row ≡ root_row → length row ≡ 13
  unfolding root_row
  roots_long e = ap length e

  pub start_in : row ≡ root_row → (i : ℕ) → i < 13 → get_or row i 0 ≡ start_of i
  unfolding root_row
  start_in e i h = ap (λ (l : List ℕ). get_or l i 0) e ∙ from_at start_of 0 13 i i h (omega arith)
