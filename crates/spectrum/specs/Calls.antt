-- What the two calls on a lent vector answer and leave in it, accepted or refused (document 01's table). Assumes
-- nothing.
use Rattle.std.specs.Prelude.{ℕ, ◌+◌, Bool, ◌&&◌, ◌||◌, cond, List, map, eqb, leb, ℤ, pos, negsuc, length, take, drop}
use Rattle.ints.specs.Parts.{up}
use Rattle.lists.specs.Every.{every}
use Rattle.ranges.specs.InRange.{in_range}
use Rattle.sheet.specs.Books.{Book, narrow_book, wide_book}
use Rattle.spectrum.specs.Gaps.{good_gaps}
use Rattle.spectrum.specs.Places.{places}
use Rattle.spectrum.specs.Stabilising.{Stable, stabilise}
use Rattle.spectrum.specs.Values.{at}
use Rattle.spectrum.specs.declared.Moves.{Moves}
use Rattle.spectrum.specs.declared.Spectrum.{Spectrum}

-- the vector as it is left, with the answer beside it: one value, so that one equation carries both
pub record Called : Type 0 where
  pub vector : List ℤ
  pub answer : Moves

abbrev pub called : List ℤ → ℕ → ℕ → Called
called v n m = record { vector = v; answer = record { refusal = n; moves = m } }

-- for refusal 0 the stabilised vector with its moves; for any other number the vector as it was, with 0 moves
unfoldable pub answered : ℕ → List ℤ → Stable → Called
answered n v s = cond (eqb n 0) (called s.vector 0 s.moves) (called v n 0)

-- ---- the stabiliser

-- 6: 2 to 16 values and one gap more
unfoldable pub lengths_ok : List ℤ → List ℤ → Bool
lengths_ok v g = (leb 2 (length v) && leb (length v) 16) && eqb (length g) (length v + 1)

-- 6 before 7, the gap set's rule
unfoldable pub stabilise_refusal : List ℤ → List ℤ → ℕ
stabilise_refusal v g = cond (lengths_ok v g) (cond (good_gaps (length v) g) 0 7) 6

unfoldable pub stabilise_call : List ℤ → List ℤ → Called
stabilise_call v g = answered (stabilise_refusal v g) v (stabilise g v)

-- ---- decoding of a line spectrum

-- the book of a rate in kHz
unfoldable pub book_of : ℕ → Book
book_of khz = cond (eqb khz 16) wide_book narrow_book

-- the indices of the places, as many as the order; those past them are not looked at
abbrev pub place_indices : ℕ → List ℤ → List ℤ
place_indices n index = take n (drop 1 index)

-- 4: 8, 12 or 16 kHz; a first index of 0 to 31; one of -10 to 10 for each place
unfoldable pub numbers_ok : ℕ → List ℤ → Bool
numbers_ok khz index =
    (eqb khz 8 || (eqb khz 12 || eqb khz 16)) &&
    (in_range (pos 0) (pos 31) (at index 0) && every (in_range (negsuc 9) (pos 10)) (place_indices (book_of khz).order index))

-- 4 before 6, a vector that holds exactly the order
unfoldable pub decode_refusal : List ℤ → List ℤ → ℕ → ℕ
decode_refusal v index khz = cond (numbers_ok khz index) (cond (eqb (length v) (book_of khz).order) 0 6) 4

-- the spectrum of the indices under a book
abbrev pub places_of : Book → List ℤ → List ℤ
places_of b index = places b (up (at index 0)) (place_indices b.order index)

-- stabilised by the book's gaps
unfoldable pub decoded : Book → List ℤ → Stable
decoded b index = stabilise (map pos b.gaps) (places_of b index)

unfoldable pub decode_call : List ℤ → Spectrum → ℕ → Called
decode_call v s khz = answered (decode_refusal v s.index khz) v (decoded (book_of khz) s.index)
