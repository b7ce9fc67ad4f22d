-- What the two calls promise besides their definitions (`specs/Statement`), gaps apart (`Always`): how many moves, where values lie, and
-- where the crate gives the same. Assumes nothing.
use Prim.Native.Nat.{ℕ, suc, ◌≤◌, ◌<◌}
use mathlib.Core.Path.{◌≡◌, refl, sym, ap, subst⁻¹, ◌∙◌}
use mathlib.Core.Bool.{true}
use mathlib.Core.List.{List, map}
use native.Mathlib.Omega.{arith}
use lib.Dec.{eqb}
use lib.IntN.{ℤ, pos}
use lib.ListN.{length, drop, length-drop}
use lib.Seq.{length-take-le}
use Rattle.ints.specs.Parts.{up}
use Rattle.deciding.proofs.Choice.{chosen}
use Rattle.spectrum.proofs.BookLaws.{book_usable, places_long, gaps_long}
use Rattle.spectrum.proofs.CallLaws.{Lengths, lengths_are, lengths_ok_lem, stabilise_accepted, stabilise_accepts, stabilise_answers}
use Rattle.spectrum.proofs.CallLaws.{Accepted, decode_accepted, decode_answers}
use Rattle.spectrum.proofs.MoveBounds.{same_two}
use Rattle.spectrum.proofs.Results.{ruled, few_moves, result_within}
use Rattle.spectrum.specs.Calls.{Called, called, answered, stabilise_refusal, stabilise_call}
use Rattle.spectrum.specs.Calls.{book_of, place_indices, places_of, decode_refusal, decoded, decode_call}
use Rattle.spectrum.specs.Gaps.{good_gaps}
use Rattle.spectrum.specs.Stabilising.{Stable, stabilise}
use Rattle.spectrum.specs.Stores.{stabilise16}
use Rattle.spectrum.specs.Statement.{Stabilises, StabiliseMoves, StabiliseFits}
use Rattle.spectrum.specs.Statement.{Decodes, DecodeMoves, DecodeFits, DecodeWhole}
use Rattle.spectrum.specs.Values.{at, Within}
use Rattle.spectrum.specs.declared.Spectrum.{Spectrum}

-- ---- moves, 0 to 20, refused or not

answered_moves : (n : ℕ) (v : List ℤ) (s : Stable) → s.moves ≤ 20 → (answered n v s).answer.moves ≤ 20
unfolding answered
answered_moves n v s h =
    chosen (λ (c : Called). c.answer.moves ≤ 20) (eqb n 0) (λ e. h) (λ e. omega arith)

pub stabilise_moves : StabiliseMoves
unfolding stabilise_call
stabilise_moves v g = answered_moves (stabilise_refusal v g) v (stabilise g v) (few_moves g v)

pub decode_moves : DecodeMoves
unfolding decode_call decoded
decode_moves v s khz =
    let b = book_of khz in
    let u = places_of b s.index in
    answered_moves (decode_refusal v s.index khz) v (stabilise (map pos b.gaps) u) (few_moves (map pos b.gaps) u)

-- ---- an accepted stabiliser

module _ (v g : List ℤ) (e : Stabilises v g) where
  pub answers : stabilise_call v g ≡ called (stabilise g v).vector 0 (stabilise g v).moves
  answers = sym (stabilise_answers v g (stabilise g v).vector (stabilise g v).moves e refl)

  sizes : Lengths v g
  sizes = lengths_are v g (stabilise_accepted v g e).0

  pub long : length g ≡ suc (length v)
  long = omega (arith, sizes.one_more)

  pub some : 0 < length v
  some = omega (arith, sizes.least)

  pub rule : good_gaps (length v) g ≡ true
  rule = (stabilise_accepted v g e).1

pub stabilise_fits : StabiliseFits
stabilise_fits v g e =
    subst⁻¹ (λ (c : Called). Within 0 32767 c.vector) (answers v g e) (result_within g v (long v g e) (rule v g e))

-- ---- accepted decoding: what is placed, stabilised by the book's gaps

indices_long : (n : ℕ) (index : List ℤ) → length index ≡ 17 → n ≤ 16 → length (place_indices n index) ≡ n
indices_long n index l h =
    let d : length (drop 1 index) ≡ 16 = omega (arith, length-drop 1 index) in length-take-le n (drop 1 index) (omega arith)

module _ (v : List ℤ) (s : Spectrum) (khz : ℕ) (w : length s.index ≡ 17) (e : Decodes v s khz) where
  abbrev handed : List ℤ
  handed = places_of (book_of khz) s.index

  accepted : Accepted v s.index khz
  accepted = decode_accepted v s.index khz e

  pub handed_long : length handed ≡ (book_of khz).order
  handed_long =
      let u = book_usable khz in
      places_long (book_of khz) u (up (at s.index 0)) (place_indices (book_of khz).order s.index) (omega (arith, accepted.first))
      (indices_long (book_of khz).order s.index w u.few)

  -- the book's gaps are those of what is handed on
  abbrev gaps : List ℤ
  gaps = map pos (book_of khz).gaps

  gaps_many : length gaps ≡ suc (length handed)
  gaps_many = gaps_long (book_of khz) (book_usable khz) ∙ ap suc (sym handed_long)

  gaps_rule : good_gaps (length handed) gaps ≡ true
  gaps_rule = subst⁻¹ (λ (n : ℕ). good_gaps n gaps ≡ true) handed_long (book_usable khz).sized.gaps

  handed_taken : Stabilises handed gaps
  handed_taken =
      let u = book_usable khz in
      stabilise_accepts handed gaps
      (lengths_ok_lem handed gaps (omega (arith, handed_long, u.some)) (omega (arith, handed_long, u.few)) (omega (arith, gaps_many)))
      gaps_rule

  pub decode_stabilises : decode_call v s khz ≡ stabilise_call handed gaps
  unfolding decoded
  decode_stabilises =
      let d = decoded (book_of khz) s.index in
      sym (decode_answers v s khz d.vector d.moves e refl)
      ∙ stabilise_answers handed gaps d.vector d.moves handed_taken refl

  book_fits : Within 0 32767 (decode_call v s khz).vector
  book_fits = subst⁻¹ (λ (c : Called). Within 0 32767 c.vector) decode_stabilises (stabilise_fits handed gaps handed_taken)

  -- the last gap of either book is 2 or more
  book_whole : decoded (book_of khz) s.index ≡ stabilise16 gaps handed
  unfolding decoded
  book_whole =
      same_two gaps handed (ruled (length handed) gaps gaps_many gaps_rule) gaps_many (some handed gaps handed_taken)
      (subst⁻¹ (λ (n : ℕ). 2 ≤ up (at gaps n)) handed_long (book_usable khz).sized.last)

pub decode_fits : DecodeFits
decode_fits = book_fits

pub decode_whole : DecodeWhole
decode_whole = book_whole
