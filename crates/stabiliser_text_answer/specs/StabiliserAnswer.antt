-- What the stabiliser program prints of an answer (document 01). Assumes nothing.
use Rattle.std.specs.Prelude.{ℕ, cond, List, [], ◌∷◌, ◌++◌, eqb, pos}
use Rattle.listing.specs.Ascii.{ascii}
use Rattle.listing.specs.Lines.{line, counted, refused_text}
use Rattle.spectrum.specs.Calls.{Called}

-- the number of moves and the vector; or the refusal, 6 or 7
unfoldable pub answer_text : Called → List ℕ
answer_text c =
    cond (eqb c.answer.refusal 0)
    (line (ascii "rounds") (pos c.answer.moves ∷ []) ++ counted (ascii "vector") c.vector)
    (refused_text c.answer.refusal)
