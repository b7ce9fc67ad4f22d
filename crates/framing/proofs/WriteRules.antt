-- Which refusal a call of writing has, and the shortest packet by numbers. Assumes nothing.
use Prim.Native.Nat.{ℕ, ◌≤◌, ◌<◌}
use mathlib.Core.Path.{◌≡◌, refl}
use mathlib.Core.Bool.{Bool, true, false, ◌&&◌, cond}
use mathlib.Core.List.{List, [], ◌∷◌}
use native.Mathlib.Omega.{arith}
use borrow.Author.Tests.{le-leb, lt-leb, eq-eqb, ne_eqb, leb-true}
use lib.Dec.{eqb, leb}
use lib.ListN.{length}
use Rattle.deciding.proofs.Both.{and_both, both_and}
use Rattle.lists.specs.Every.{every}
use Rattle.refusals.specs.First.{first_of}
use Rattle.framing.specs.Toc.{in_time}
use Rattle.framing.specs.Lengths.{total}
use Rattle.framing.specs.Rules.{fits_frame}
use Rattle.framing.specs.Writing.{alike, shortest_code, shortest, length_for, frames_rule, write_rule}
use Rattle.framing.proofs.Kept.{by_bool}

pub refuted : (t : Bool) → (t ≡ true → ⊥) → t ≡ false
refuted true h = absurd (h refl)
refuted false h = refl

module _ (len c n : ℕ) (ns : List ℕ) (l : ℕ) where
  pub stops_1 : 16384 < len → write_rule len c n ns l ≡ 1
  unfolding write_rule first_of
  stops_1 h = rw (lt-leb len 16384 h)

  pub stops_6 : len ≤ 16384 → (n ≡ total ns → ⊥) → write_rule len c n ns l ≡ 6
  unfolding write_rule first_of
  stops_6 h i = rw (le-leb len 16384 h, ne_eqb n (total ns) i)

  pub stops_8 : len ≤ 16384 → n ≡ total ns → (shortest ns ≤ length_for ns l → length_for ns l ≤ len → ⊥) → write_rule len c n ns l ≡ 8
  unfolding write_rule first_of
  stops_8 h i j =
      let f : leb (shortest ns) (length_for ns l) && leb (length_for ns l) len ≡ false =
      refuted (leb (shortest ns) (length_for ns l) && leb (length_for ns l) len) (λ t.
      let p = and_both (leb (shortest ns) (length_for ns l)) (leb (length_for ns l) len) t in j (leb-true _ _ p.0) (leb-true _ _ p.1))
      in
      rw (le-leb len 16384 h, eq-eqb n (total ns) i, f)

  -- with room the frames decide
  pub by_frames : len ≤ 16384 → n ≡ total ns → shortest ns ≤ length_for ns l → length_for ns l ≤ len
      → frames_rule c ns ≡ write_rule len c n ns l
  unfolding write_rule first_of
  by_frames h i p q =
      let f : leb (shortest ns) (length_for ns l) && leb (length_for ns l) len ≡ true =
      both_and (leb (shortest ns) (length_for ns l)) (leb (length_for ns l) len) (le-leb _ _ p) (le-leb _ _ q) in
      rw (le-leb len 16384 h, eq-eqb n (total ns) i, f)

-- ---- refusals 10 and 11

module _ (c : ℕ) (ns : List ℕ) where
  pub frames_10 : (1 ≤ length ns → every fits_frame ns ≡ true → in_time (length ns) c ≡ true → ⊥) → 10 ≡ frames_rule c ns
  unfolding frames_rule first_of
  frames_10 j =
      let f : leb 1 (length ns) && (every fits_frame ns && in_time (length ns) c) ≡ false =
      refuted (leb 1 (length ns) && (every fits_frame ns && in_time (length ns) c)) (λ t.
      let a = and_both (leb 1 (length ns)) (every fits_frame ns && in_time (length ns) c) t in
      let b = and_both (every fits_frame ns) (in_time (length ns) c) a.1 in
      j (leb-true _ _ a.0) b.0 b.1) in
      rw f

  module _ (a : 1 ≤ length ns) (b : every fits_frame ns ≡ true) (d : in_time (length ns) c ≡ true) where
    fine : leb 1 (length ns) && (every fits_frame ns && in_time (length ns) c) ≡ true
    fine = both_and (leb 1 (length ns)) (every fits_frame ns && in_time (length ns) c) (le-leb _ _ a)
        (both_and (every fits_frame ns) (in_time (length ns) c) b d)

    pub frames_11 : 11 < c → 11 ≡ frames_rule c ns
    unfolding frames_rule first_of
    frames_11 h = rw (fine, lt-leb c 11 h)

    pub frames_0 : c ≤ 11 → 0 ≡ frames_rule c ns
    unfolding frames_rule first_of
    frames_0 h = rw (fine, le-leb c 11 h)

-- ---- the code of the shortest, by the number of frames

pub code_one : (ns : List ℕ) → length ns ≡ 1 → 0 ≡ shortest_code ns
unfolding shortest_code
code_one [] h = absurd (omega arith)
code_one (a ∷ []) h = refl
code_one (a ∷ (b ∷ [])) h = absurd (omega arith)
code_one (a ∷ (b ∷ (c ∷ r))) h = absurd (omega arith)

pub code_two : (ns : List ℕ) → length ns ≡ 2 → cond (alike ns) 1 2 ≡ shortest_code ns
unfolding shortest_code alike
code_two [] h = absurd (omega arith)
code_two (a ∷ []) h = absurd (omega arith)
code_two (a ∷ (b ∷ [])) h = by_bool (eqb b a) (λ t. rw t) (λ t. rw t)
code_two (a ∷ (b ∷ (c ∷ r))) h = absurd (omega arith)

pub code_other : (ns : List ℕ) → (length ns ≡ 1 → ⊥) → (length ns ≡ 2 → ⊥) → 3 ≡ shortest_code ns
unfolding shortest_code
code_other [] h i = refl
code_other (a ∷ []) h i = absurd (h refl)
code_other (a ∷ (b ∷ [])) h i = absurd (i refl)
code_other (a ∷ (b ∷ (c ∷ r))) h i = refl
