-- Every gap, always (document 02, item 11). Filters are built of a vector's values, and one whose neighbours touch is
-- unstable: what the two calls leave keeps every gap. To be read alone: when a vector keeps its gaps, which calls are
-- accepted, and what is promised of `stabilise_call` and `decode_call`, with which the exported calls' contracts equate what
-- is left and answered. Ruled out: neighbours nearer than their gap, good values that are moved, 0 answered for the moves
-- of others, a second call that moves anything. Assumes nothing.
use Rattle.std.specs.Prelude.{ℕ, suc, ◌≤◌, ◌<◌, ◌≡◌, List, map, ℤ, pos, ◌+ℤ◌, ◌≤ℤ◌, length}
use Rattle.spectrum.specs.Calls.{Called, called, stabilise_call, book_of, places_of, decode_call}
use Rattle.spectrum.specs.Values.{at, top, total}
use Rattle.spectrum.specs.declared.Spectrum.{Spectrum}

-- gap i is the least distance of value i from the one before it; 0 stands before the first value and 32,768 behind the
-- last (RFC 6716, section 4.2.7.5.4)
pub record EveryGap (g v : List ℤ) : Type 0 where
  pub first : at g 0 ≤ℤ at v 0
  pub between : (i : ℕ) → suc i < length v → (at v i +ℤ at g (suc i)) ≤ℤ at v (suc i)
  pub last : (i : ℕ) → suc i ≡ length v → (at v i +ℤ at g (suc i)) ≤ℤ top

-- document 01's rule: 2 to 16 values and one gap more, no gap negative, the last 1 or more, 32,768 together at most
pub record Takes (v g : List ℤ) : Type 0 where
  pub some : 2 ≤ length v
  pub few : length v ≤ 16
  pub one_more : length g ≡ suc (length v)
  pub natural : (i : ℕ) → i ≤ length v → pos 0 ≤ℤ at g i
  pub end : pos 1 ≤ℤ at g (length v)
  pub together : total g ≤ℤ top

-- what holds of values u, gaps g, and c, what the call leaves and answers
pub record Stabilised (u g : List ℤ) (c : Called) : Type 0 where
  pub long : length c.vector ≡ length u
  pub kept : EveryGap g c.vector
  -- 0 moves exactly if the values keep every gap, and then they are left as they are
  pub stays : EveryGap g u → c ≡ called u 0 0
  pub stayed : c.answer.moves ≡ 0 → EveryGap g u
  -- stabilising twice is stabilising once
  pub again : stabilise_call c.vector g ≡ called c.vector 0 0

-- ---- the stabiliser

-- accepted exactly by that rule: the values may be any whole numbers, so any of 16 bits
abbrev pub StabiliseTakes : Type 0
StabiliseTakes =
    (v g : List ℤ)
    → (Takes v g → (stabilise_call v g).answer.refusal ≡ 0) × ((stabilise_call v g).answer.refusal ≡ 0 → Takes v g)

abbrev pub StabiliseAlways : Type 0
StabiliseAlways =
    (v g : List ℤ) (c : Called) → c ≡ stabilise_call v g → c.answer.refusal ≡ 0 → Stabilised v g c

-- ---- decoding: of the values where the indices place them, by the book's gaps; a record of indices has 17

abbrev pub DecodeAlways : Type 0
DecodeAlways =
    (v : List ℤ) (s : Spectrum) (khz : ℕ) (c : Called) → length s.index ≡ 17 → c ≡ decode_call v s khz
    → c.answer.refusal ≡ 0 → Stabilised (places_of (book_of khz) s.index) (map pos (book_of khz).gaps) c

-- ---- distances, for a filter that is built of the values

-- the first value a or more above 0, neighbours b or more apart, the last value d or more below 32,768
pub record Apart (a b d : ℕ) (v : List ℤ) : Type 0 where
  pub first : pos a ≤ℤ at v 0
  pub between : (i : ℕ) → suc i < length v → (at v i +ℤ pos b) ≤ℤ at v (suc i)
  pub last : (i : ℕ) → suc i ≡ length v → (at v i +ℤ pos d) ≤ℤ top

-- gaps that are at least so large
abbrev pub GapsApart : Type 0
GapsApart =
    (a b d : ℕ) (g v : List ℤ) → pos a ≤ℤ at g 0 → ((i : ℕ) → suc i < length v → pos b ≤ℤ at g (suc i))
    → ((i : ℕ) → suc i ≡ length v → pos d ≤ℤ at g (suc i)) → EveryGap g v → Apart a b d v

-- what decoding leaves under either book; docs/HERTZ.md has the same in hertz
abbrev pub DecodeApart : Type 0
DecodeApart =
    (v : List ℤ) (s : Spectrum) (khz : ℕ) (c : Called) → length s.index ≡ 17 → c ≡ decode_call v s khz
    → c.answer.refusal ≡ 0
    → ((khz ≡ 16 → ⊥) → (length c.vector ≡ 10) × Apart 250 3 461 c.vector)
    × (khz ≡ 16 → (length c.vector ≡ 16) × Apart 100 3 347 c.vector)
