-- What the stabiliser program prints (document 01): its input is a vector and a gap section, each after a one-byte
-- count, of values of two bytes, high first. Assumes nothing.
use Rattle.std.specs.Prelude.{ℕ, ◌+◌, ◌*◌, Bool, cond, List, eqb, length}
use Rattle.listing.specs.Lines.{refused_text}
use Rattle.sections.specs.Values.{byte_at, values_at}
use Rattle.spectrum.specs.Calls.{stabilise_call}
use Rattle.stabiliser_text_answer.specs.StabiliserAnswer.{answer_text}

-- the count of gaps follows the vector
abbrev pub gaps_at : List ℕ → ℕ
gaps_at s = 1 + 2 * byte_at s 0

-- 9: the input ends where its last section does
abbrev pub whole : List ℕ → Bool
whole s = eqb (length s) (gaps_at s + 1 + 2 * byte_at s (gaps_at s))

-- n values of the vector, m gaps
abbrev pub sections_text : List ℕ → ℕ → ℕ → List ℕ
sections_text s n m = answer_text (stabilise_call (values_at s 1 n) (values_at s (2 + 2 * n) m))

unfoldable pub stabiliser_text : List ℕ → List ℕ
stabiliser_text s = cond (whole s) (sections_text s (byte_at s 0) (byte_at s (gaps_at s))) (refused_text 9)
