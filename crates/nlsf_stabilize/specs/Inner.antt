-- What stabilising asks, and the sum of gaps with the gap set's rule in one number. Assumes nothing.
use Rattle.std.specs.Prelude.{ℕ, suc, ◌≤◌, ◌<◌, ◌≡◌, cond, List, ℤ, pos, negsuc, Option, None, Some, Result, Ok, Err, length}
use Rattle.refusals.specs.Inner.{number_of}
use Rattle.refusals.specs.declared.Refusal.{Refusal}
use Rattle.spectrum.specs.declared.Moves.{Moves}
use Rattle.spectrum.specs.Gaps.{good_gaps, Ruled}
use Rattle.spectrum.specs.Values.{total}

-- the gap set's rule, 1 to 16 values, one gap more
pub record Ready (g v : List ℤ) : Type 0 where
  pub rule : Ruled g
  pub long : length g ≡ suc (length v)
  pub some : 0 < length v
  pub few : length v ≤ 16

-- the sum of gaps that meet the gap set's rule for n values, and -1 of others
unfoldable pub ruled_sum : ℕ → List ℤ → ℤ
ruled_sum n g = cond (good_gaps n g) (total g) (negsuc 0)

-- that sum, or none where it is -1
abbrev pub sum_of : ℤ → Option ℤ
sum_of (pos n) = Some (pos n)
sum_of (negsuc n) = None

-- what C gets of a call: the number of moves, or the refusal's
abbrev pub moves_of : Result ℕ Refusal → Moves
moves_of (Ok moves) = record { refusal = 0; moves = moves }
moves_of (Err refusal) = record { refusal = number_of refusal; moves = 0 }
