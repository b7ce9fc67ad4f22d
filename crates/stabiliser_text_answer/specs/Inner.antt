-- What an inner function asks of an answer that is printed. Assumes nothing.
use Rattle.std.specs.Prelude.{ℕ, ◌≤◌, ◌≡◌}
use Rattle.spectrum.specs.declared.Moves.{Moves}

-- an answer on n values whose numbers are small
pub record Small (n : ℕ) (a : Moves) : Type 0 where
  pub refusal : a.refusal ≤ 7
  pub moves : a.moves ≤ 20
  pub values : a.refusal ≡ 0 → n ≤ 16
