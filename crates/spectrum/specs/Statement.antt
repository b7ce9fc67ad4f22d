-- What document 01 and RFC 6716, section 4.2.7.5, say of the two calls on a vector besides their definitions: how
-- many moves are made, where the values lie, and where the crate, whose moves keep 16 bits, gives the same. What they
-- say of gaps stands in Statement/Always. Assumes nothing.
pub mod Always
use Rattle.std.specs.Prelude.{ℕ, suc, ◌≤◌, ◌<◌, ◌≡◌, true, List, map, ℤ, pos, ◌*ℤ◌, length}
use Rattle.std.specs.Int.Signed.{quot_z}
use Rattle.ints.specs.Parts.{up}
use Rattle.sheet.specs.Books.{Book}
use Rattle.spectrum.specs.Calls.{stabilise_refusal, stabilise_call, book_of, decode_refusal, places_of, decoded, decode_call}
use Rattle.spectrum.specs.Distances.{keeps}
use Rattle.spectrum.specs.Gaps.{good_gaps, Good, Ruled}
use Rattle.spectrum.specs.Places.{places}
use Rattle.spectrum.specs.Residuals.{residuals}
use Rattle.spectrum.specs.Stabilising.{run, stabilise}
use Rattle.spectrum.specs.Statement.Always.{EveryGap}
use Rattle.spectrum.specs.Stores.{stabilise16, calm}
use Rattle.spectrum.specs.Values.{at, Mag, Within}
use Rattle.spectrum.specs.declared.Spectrum.{Spectrum}

-- calls that are accepted; a record of indices has 17
abbrev pub Stabilises : List ℤ → List ℤ → Type 0
Stabilises v g = stabilise_refusal v g ≡ 0

abbrev pub Decodes : List ℤ → Spectrum → ℕ → Type 0
Decodes v s khz = decode_refusal v s.index khz ≡ 0

-- ---- moves: 0 to 20, refused or not

abbrev pub StabiliseMoves : Type 0
StabiliseMoves = (v g : List ℤ) → (stabilise_call v g).answer.moves ≤ 20

abbrev pub DecodeMoves : Type 0
DecodeMoves = (v : List ℤ) (s : Spectrum) (khz : ℕ) → (decode_call v s khz).answer.moves ≤ 20

-- ---- gaps, of vectors of any length (of the two calls: Statement/Always)

-- every one is kept
abbrev pub ResultGaps : Type 0
ResultGaps =
    (g v : List ℤ) → length g ≡ suc (length v) → good_gaps (length v) g ≡ true → 0 < length v
    → EveryGap g (stabilise g v).vector

-- stabilising twice is stabilising once
abbrev pub Twice : Type 0
Twice =
    (g v : List ℤ) → length g ≡ suc (length v) → good_gaps (length v) g ≡ true
    → stabilise g (stabilise g v).vector ≡ record { vector = (stabilise g v).vector; moves = 0 }

-- a run that comes to a vector that keeps every gap ends with it, whatever moves n are left
abbrev pub RunSettled : Type 0
RunSettled =
    (n : ℕ) (g v : List ℤ) → length g ≡ suc (length v) → Good g → keeps g v ≡ true
    → run n g v ≡ record { vector = v; moves = 0 }

-- ---- where values lie: what decoding hands to the stabiliser, and what the stabiliser leaves

abbrev pub PlacesWithin : Type 0
PlacesWithin = (b : Book) (v : ℕ) (xs : List ℤ) → Within 0 32767 (places b v xs)

abbrev pub ResultWithin : Type 0
ResultWithin =
    (g v : List ℤ) → length g ≡ suc (length v) → good_gaps (length v) g ≡ true → Within 0 32767 (stabilise g v).vector

-- so 16 bits hold what a call leaves, whatever numbers its moves went through
abbrev pub StabiliseFits : Type 0
StabiliseFits = (v g : List ℤ) → Stabilises v g → Within 0 32767 (stabilise_call v g).vector

abbrev pub DecodeFits : Type 0
DecodeFits =
    (v : List ℤ) (s : Spectrum) (khz : ℕ) → length s.index ≡ 17 → Decodes v s khz
    → Within 0 32767 (decode_call v s khz).vector

-- the residuals of at most 16 places, and what placing makes of one: no product leaves 32 bits
abbrev pub ResidualsWithin : Type 0
ResidualsWithin =
    (step : ℕ) (predictor : ℕ → ℕ) → step ≤ 11796 → ((i : ℕ) → predictor i ≤ 256) → (k : ℕ) (xs : List ℤ) → length xs ≤ 16
    → Within 10 10 xs → Within 29200 29200 (residuals step predictor k xs)

abbrev pub MovedFits : Type 0
MovedFits =
    (w : ℕ) (r : ℤ) → Mag 29200 r → Mag 478412800 (r *ℤ pos 16384) × Mag 478412800 (quot_z (r *ℤ pos 16384) (pos w))

-- ---- the crate, whose moves keep 16 bits: the same vector and count

-- wherever no store of it leaves 16 bits
abbrev pub SameStabiliser : Type 0
SameStabiliser = (g v : List ℤ) → calm 20 g v ≡ true → stabilise g v ≡ stabilise16 g v

-- so wherever the last gap is 2 or more, as that of either book is
abbrev pub SameTwo : Type 0
SameTwo =
    (g v : List ℤ) → Ruled g → length g ≡ suc (length v) → 0 < length v → 2 ≤ up (at g (length v))
    → stabilise g v ≡ stabilise16 g v

-- decoding never meets the difference
abbrev pub DecodeWhole : Type 0
DecodeWhole =
    (v : List ℤ) (s : Spectrum) (khz : ℕ) → length s.index ≡ 17 → Decodes v s khz
    → decoded (book_of khz) s.index ≡ stabilise16 (map pos (book_of khz).gaps) (places_of (book_of khz) s.index)
