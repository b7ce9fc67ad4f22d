-- What a program's library function leaves in a lent buffer: the text, and behind it what was there; it answers the
-- text's length. Assumes nothing.
use Rattle.std.specs.Prelude.{ℕ, List, ◌++◌, length, drop}

-- the buffer as it is left, with the answer beside it: one value, so that one equation carries both
pub record Printed : Type 0 where
  pub buffer : List ℕ
  pub count : ℕ

unfoldable pub printed : List ℕ → List ℕ → Printed
printed text before = record { buffer = text ++ drop (length text) before; count = length text }
