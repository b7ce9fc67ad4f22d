-- Either arm is the book of its rate. Assumes nothing.
use Rattle.std.proofs.Common.{◌≡◌, ℕ, ◌≤◌, List, length, take, drop, arith, rules, ◌∙◌}
use lib.Dec.{T}
use lib.IntN.{ℤ, pos, negsuc, nat_abs}
use lib.Signed.{non_neg}
use mir.Syntax.{w8, w64}
use mir.Val.{SFits, Fits, to_z, of_z}
use mir.Facts.{to_z-of_z}
use Rattle.ints.specs.Parts.{up, down}
use Rattle.sheet.specs.Books.{Book}
use Rattle.spectrum.proofs.CallLaws.{decode_accepted}
use Rattle.spectrum.specs.Calls.{book_of, decoded, decode_refusal}
use Rattle.spectrum.specs.Stabilising.{Stable}
use Rattle.spectrum.specs.Values.{at}
use Rattle.nlsf_decode.specs.Inner.{Indexed, spectrum_of}
use Rattle.nlsf_decode.proofs.RowLaws.{Under, wide_under, narrow_under, indexed, decoded_as}
use Rattle.nlsf_decode.proofs.decode.Goals as goal

-- a first index of 0 to 31 is a natural number
as_natural : (z : ℤ) → down z ≡ 0 → up z ≤ 31 → T (non_neg z) × Fits w64 (nat_abs z)
as_natural (pos n) d u = (tt, omega arith)
as_natural (negsuc n) d u = absurd (omega arith)

-- an accepted call's 17 indices, of which the machine reads the first
module _ (v index : List ℤ) (khz : ℕ) (f : SFits w8 (at index 0)) (l : length index ≡ 17) (e : decode_refusal v index khz ≡ 0) where
  natural : T (non_neg (to_z w8 (of_z w8 (at index 0)))) × Fits w64 (nat_abs (to_z w8 (of_z w8 (at index 0))))
  natural = let a = decode_accepted v index khz e in rw (to_z-of_z f) (as_natural (at index 0) a.first0 a.first)

  -- what the arm of a book asks, and that its answer is the call's
  module _ {b : Book} {n : ℕ} (u : Under khz b n) where
    asks : Indexed n v (nat_abs (to_z w8 (of_z w8 (at index 0)))) (take n (drop 1 index))
    asks = rw (to_z-of_z f) (indexed u index v l (decode_accepted v index khz e))

    answers : {s : Stable} → s ≡ spectrum_of b (nat_abs (to_z w8 (of_z w8 (at index 0)))) (take n (drop 1 index)) → s ≡ decoded (book_of khz) index
    answers q = (rw (to_z-of_z f) at q) ∙ decoded_as u index (decode_accepted v index khz e).first0

pub overflow_cast-v : goal.overflow_cast-v
overflow_cast-v c =
    let f : SFits w8 (at c.args.index 0) = search rules in
    let l : length c.args.index ≡ 17 = search rules in
    natural c.args.vector.now c.args.index c.args.khz f l c.requires

pub spectrum_run-requires : goal.spectrum_run-requires
spectrum_run-requires c =
    let f : SFits w8 (at c.args.index 0) = search rules in
    let l : length c.args.index ≡ 17 = search rules in
    asks c.args.vector.now c.args.index c.args.khz f l c.requires (wide_under c.args.khz c.if-khz-eq16.true)

pub spectrum_run-requires-else-khz-eq16 : goal.spectrum_run-requires-else-khz-eq16
spectrum_run-requires-else-khz-eq16 c =
    let f : SFits w8 (at c.args.index 0) = search rules in
    let l : length c.args.index ≡ 17 = search rules in
    asks c.args.vector.now c.args.index c.args.khz f l c.requires (narrow_under c.args.khz c.if-khz-eq16.false)

pub returns-then-khz-eq16 : goal.returns-then-khz-eq16
returns-then-khz-eq16 c =
    let f : SFits w8 (at c.args.index 0) = search rules in
    let l : length c.args.index ≡ 17 = search rules in
    answers c.args.vector.now c.args.index c.args.khz f l c.requires (wide_under c.args.khz c.if-khz-eq16.true) c.spectrum_run.ensures

pub returns-else-khz-eq16 : goal.returns-else-khz-eq16
returns-else-khz-eq16 c =
    let f : SFits w8 (at c.args.index 0) = search rules in
    let l : length c.args.index ≡ 17 = search rules in
    answers c.args.vector.now c.args.index c.args.khz f l c.requires (narrow_under c.args.khz c.if-khz-eq16.false)
    c.spectrum_run-else-khz-eq16.ensures
