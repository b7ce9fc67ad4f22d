-- A text put into a buffer, as inner contracts say it. Assumes nothing.
use Rattle.std.specs.Prelude.{ℕ, ◌+◌, ◌≤◌, ◌≡◌, List, length}
use Rattle.std.proofs.lemmas.List.Edits.{sets}

-- the bytes of t stand from `at` on and all others are as they were; `next` is the place behind them; they are at
-- most n
pub record Put (n : ℕ) (before : List ℕ) (at : ℕ) (t after : List ℕ) (next : ℕ) : Type 0 where
  pub is : after ≡ sets before at t
  pub behind : next ≡ at + length t
  pub most : length t ≤ n
