-- What the calls' refusals say, and what a call answers by its refusal. Assumes nothing.
use Prim.Native.Nat.{ℕ, ◌+◌, ◌≤◌}
use mathlib.Core.Path.{◌≡◌, refl, sym, ap, ◌∙◌}
use mathlib.Core.Bool.{true, ◌&&◌, ◌||◌}
use mathlib.Core.List.{List, [], ◌∷◌}
use native.Mathlib.Omega.{arith}
use borrow.Author.Tests.{eqb-true, eq-eqb, ne_eqb}
use lib.Dec.{eqb, leb}
use lib.IntN.{ℤ, pos, negsuc}
use lib.Signed.{le_z}
use lib.ListN.{length}
use Rattle.ints.proofs.Order.{parts_alone, le_z_true}
use Rattle.ints.specs.Parts.{up, down}
use Rattle.deciding.proofs.Both.{and_both, both_and, in_range_lem, range_in}
use Rattle.deciding.proofs.Choice.{chosen}
use Rattle.lists.specs.Every.{every}
use Rattle.ranges.specs.InRange.{in_range}
use Rattle.spectrum.specs.Calls.{called, answered, lengths_ok, stabilise_refusal, stabilise_call, book_of, place_indices, numbers_ok, decode_refusal, decoded, decode_call}
use Rattle.spectrum.specs.Gaps.{good_gaps}
use Rattle.spectrum.specs.Stabilising.{Stable, stabilise}
use Rattle.spectrum.specs.Values.{at, Within}
use Rattle.spectrum.specs.declared.Spectrum.{Spectrum}

-- a call that is not refused, and one that is
pub answered_none : (n : ℕ) (v : List ℤ) (s : Stable) → n ≡ 0 → answered n v s ≡ called s.vector 0 s.moves
unfolding answered
answered_none n v s e = rw (eq-eqb n 0 e)

pub answered_some : (n : ℕ) (v : List ℤ) (s : Stable) → (n ≡ 0 → ⊥) → answered n v s ≡ called v n 0
unfolding answered
answered_some n v s e = rw (ne_eqb n 0 e)

-- ---- the stabiliser

pub record Lengths (v g : List ℤ) : Type 0 where
  pub least : 2 ≤ length v
  pub most : length v ≤ 16
  pub one_more : length g ≡ length v + 1

pub lengths_are : (v g : List ℤ) → lengths_ok v g ≡ true → Lengths v g
unfolding lengths_ok
lengths_are v g e =
    let p = and_both (leb 2 (length v) && leb (length v) 16) (eqb (length g) (length v + 1)) e in
    let r = in_range_lem 2 16 (length v) p.0 in
    record { least = r.0; most = r.1; one_more = eqb-true _ _ p.1 }

pub lengths_ok_lem : (v g : List ℤ) → 2 ≤ length v → length v ≤ 16 → length g ≡ length v + 1 → lengths_ok v g ≡ true
unfolding lengths_ok
lengths_ok_lem v g p q r =
    both_and (leb 2 (length v) && leb (length v) 16) (eqb (length g) (length v + 1)) (range_in 2 16 (length v) p q) (eq-eqb _ _ r)

-- accepted: the lengths and the gap set are as document 01 asks
pub stabilise_accepted : (v g : List ℤ) → stabilise_refusal v g ≡ 0 → (lengths_ok v g ≡ true) × (good_gaps (length v) g ≡ true)
unfolding stabilise_refusal
stabilise_accepted v g =
    chosen (λ (n : ℕ). n ≡ 0 → (lengths_ok v g ≡ true) × (good_gaps (length v) g ≡ true)) (lengths_ok v g)
    (λ a. chosen (λ (n : ℕ). n ≡ 0 → (lengths_ok v g ≡ true) × (good_gaps (length v) g ≡ true)) (good_gaps (length v) g) (λ b e. (a, b)) (λ b e. absurd (omega arith)))
    (λ a e. absurd (omega arith))

pub stabilise_accepts : (v g : List ℤ) → lengths_ok v g ≡ true → good_gaps (length v) g ≡ true → stabilise_refusal v g ≡ 0
unfolding stabilise_refusal
stabilise_accepts v g a b = rw a (rw b refl)

-- the vector that is left and the moves made are the definition's: so is the whole answer
pub stabilise_answers : (v g w : List ℤ) (m : ℕ) → stabilise_refusal v g ≡ 0 → record { vector = w; moves = m } ≡ stabilise g v
    → called w 0 m ≡ stabilise_call v g
unfolding stabilise_call
stabilise_answers v g w m e f =
    ap (λ (s : Stable). called s.vector 0 s.moves) f ∙ sym (answered_none (stabilise_refusal v g) v (stabilise g v) e)

pub stabilise_refuses : (v g : List ℤ) → (stabilise_refusal v g ≡ 0 → ⊥) → called v (stabilise_refusal v g) 0 ≡ stabilise_call v g
unfolding stabilise_call
stabilise_refuses v g e = sym (answered_some (stabilise_refusal v g) v (stabilise g v) e)

-- ---- decoding

pub tens_within : (xs : List ℤ) → every (in_range (negsuc 9) (pos 10)) xs ≡ true → Within 10 10 xs
unfolding Within
tens_within [] e = tt
tens_within (x ∷ xs) e =
    let p = and_both (in_range (negsuc 9) (pos 10) x) (every (in_range (negsuc 9) (pos 10)) xs) e in
    let q = and_both (le_z (negsuc 9) x) (le_z x (pos 10)) p.0 in
    let lo = le_z_true (negsuc 9) x q.0 in
    let hi = le_z_true x (pos 10) q.1 in
    ((omega (arith, parts_alone x, lo), omega (arith, parts_alone x, hi)), tens_within xs p.1)

-- accepted: a rate of 8, 12 or 16 kHz, a first index of 0 to 31, and as many of -10 to 10 as the vector has places
pub record Accepted (v index : List ℤ) (khz : ℕ) : Type 0 where
  pub rate : eqb khz 8 || (eqb khz 12 || eqb khz 16) ≡ true
  pub first0 : down (at index 0) ≡ 0
  pub first : up (at index 0) ≤ 31
  pub tens : Within 10 10 (place_indices (book_of khz).order index)
  pub long : length v ≡ (book_of khz).order

pub decode_accepted : (v index : List ℤ) (khz : ℕ) → decode_refusal v index khz ≡ 0 → Accepted v index khz
unfolding decode_refusal numbers_ok
decode_accepted v index khz =
    chosen (λ (n : ℕ). n ≡ 0 → Accepted v index khz) (numbers_ok khz index)
    (λ a.
    chosen (λ (n : ℕ). n ≡ 0 → Accepted v index khz) (eqb (length v) (book_of khz).order)
    (λ b e.
    let rate = eqb khz 8 || (eqb khz 12 || eqb khz 16) in
    let first = in_range (pos 0) (pos 31) (at index 0) in
    let small = every (in_range (negsuc 9) (pos 10)) (place_indices (book_of khz).order index) in
    let p = and_both rate (first && small) a in
    let q = and_both first small p.1 in
    let r = and_both (le_z (pos 0) (at index 0)) (le_z (at index 0) (pos 31)) q.0 in
    let lo = le_z_true (pos 0) (at index 0) r.0 in
    let hi = le_z_true (at index 0) (pos 31) r.1 in
    record {
      rate = p.0;
      first0 = omega (arith, parts_alone (at index 0), lo);
      first = omega (arith, parts_alone (at index 0), hi);
      tens = tens_within (place_indices (book_of khz).order index) q.1;
      long = eqb-true (length v) (book_of khz).order b;
    })
    (λ b e. absurd (omega arith)))
    (λ a e. absurd (omega arith))

pub decode_answers : (v : List ℤ) (s : Spectrum) (khz : ℕ) (w : List ℤ) (m : ℕ) → decode_refusal v s.index khz ≡ 0
    → record { vector = w; moves = m } ≡ decoded (book_of khz) s.index → called w 0 m ≡ decode_call v s khz
unfolding decode_call
decode_answers v s khz w m e f =
    ap (λ (t : Stable). called t.vector 0 t.moves) f
    ∙ sym (answered_none (decode_refusal v s.index khz) v (decoded (book_of khz) s.index) e)

pub decode_refuses : (v : List ℤ) (s : Spectrum) (khz : ℕ) → (decode_refusal v s.index khz ≡ 0 → ⊥)
    → called v (decode_refusal v s.index khz) 0 ≡ decode_call v s khz
unfolding decode_call
decode_refuses v s khz e =
    sym (answered_some (decode_refusal v s.index khz) v (decoded (book_of khz) s.index) e)
