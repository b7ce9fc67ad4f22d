-- What the frame lister prints of a frame, field by field (document 01). Assumes nothing.
use Rattle.std.specs.Prelude.{ℕ, zero, suc, ◌+◌, cond, List, [], ◌∷◌, ◌++◌, eqb, ℤ, pos, nat_abs, take, drop}
use Rattle.listing.specs.Ascii.{ascii}
use Rattle.listing.specs.Lines.{line, counted, numbers}
use Rattle.silk.specs.declared.Indices.{Indices}
use Rattle.silk.specs.IndexSyntax.{book_of}

-- of a voiced frame: lag, contour, period, a filter index for each subframe, scale; of any other none
unfoldable pub pitch_of : ℕ → Indices → List ℤ
pitch_of subframes x =
    cond (eqb (nat_abs x.signal) 2) (x.lag ∷ x.contour ∷ x.period ∷ (take subframes x.ltp ++ (x.scale ∷ []))) []

-- rate and subframes, then signal and offset type
unfoldable pub kind_text : ℕ → ℕ → Indices → List ℕ
kind_text khz subframes x =
    line (ascii "frame") (pos khz ∷ pos subframes ∷ []) ++ line (ascii "type") (x.signal ∷ x.offset ∷ [])

unfoldable pub gains_text : ℕ → Indices → List ℕ
gains_text subframes x = counted (ascii "gains") (take subframes x.gains)

-- the first index and one for each place
unfoldable pub spectrum_text : ℕ → Indices → List ℕ
spectrum_text khz x = counted (ascii "nlsf") (take ((book_of khz).order + 1) x.nlsf)

unfoldable pub pitch_text : ℕ → Indices → List ℕ
pitch_text subframes x = counted (ascii "pitch") (pitch_of subframes x)

unfoldable pub indices_text : ℕ → ℕ → Indices → List ℕ
indices_text khz subframes x =
    kind_text khz subframes x ++
    gains_text subframes x ++
    spectrum_text khz x ++
    line (ascii "interp") (x.interp ∷ []) ++
    pitch_text subframes x ++
    line (ascii "seed") (x.seed ∷ [])

-- a line for each block of 16
unfoldable pub block_lines : ℕ → List ℤ → List ℕ
block_lines zero p = []
block_lines (suc n) p = numbers (take 16 p) ++ block_lines n (drop 16 p)

unfoldable pub pulses_text : ℕ → List ℤ → List ℕ
pulses_text blocks p = line (ascii "pulses") (pos blocks ∷ []) ++ block_lines blocks p ++ line (ascii "end") []
