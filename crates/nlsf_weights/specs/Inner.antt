-- What weights are worked out by, place by place. Assumes nothing.
use Rattle.std.specs.Prelude.{ℕ, zero, suc, ◌-◌, ◌/◌, ◌%◌, ◌^◌, ◌<◌, ◌≡◌, true, cond, List, [], ◌∷◌, ◌++◌, eqb, length, get_or}
use Rattle.sheet.specs.Weights.{rises}

-- f at the n numbers from k on
abbrev pub from : (ℕ → ℕ) → ℕ → ℕ → List ℕ
from f k zero = []
from f k (suc n) = f k ∷ from f (suc k) n

-- 1024 divided by each number below 48
unfoldable pub share_row : List ℕ
share_row = from (λ d. 1024 / d) 0 48

-- where the line of a root of bit length i + 16 begins
abbrev pub start_of : ℕ → ℕ
start_of i = cond (eqb (i % 2) 1) 32768 46214 / 2 ^ ((16 - i) / 2)

unfoldable pub root_row : List ℕ
root_row = from start_of 0 13

-- the values, with 0 before the first and 256 behind the last
abbrev pub edges : List ℕ → List ℕ
edges v = 0 ∷ (v ++ (256 ∷ []))

-- 1024 divided by the distance from edge k to the next
abbrev pub share_at : List ℕ → ℕ → ℕ
share_at v k = 1024 / (get_or (edges v) (suc k) 0 - get_or (edges v) k 0)

-- what the weight of place k of v is worked out from: both rows, and the share q behind its value
pub record Asked (s r v : List ℕ) (k q : ℕ) : Type 0 where
  pub shares : s ≡ share_row
  pub roots : r ≡ root_row
  pub rising : rises v ≡ true
  pub inside : k < length v
  pub behind : q ≡ share_at v (suc k)
