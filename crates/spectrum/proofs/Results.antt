-- The laws of stabilising as document 01 and RFC 6716, section 4.2.7.5.4, put them: over the test of the gap set, place by place.
-- Assumes nothing.
use Prim.Native.Nat.{ℕ, zero, suc, ◌≤◌, ◌<◌, suc-le-suc}
use mathlib.Core.Path.{◌≡◌, refl, sym, ap, subst⁻¹, ◌∙◌}
use mathlib.Core.Bool.{true, ◌&&◌}
use mathlib.Core.List.{List, [], ◌∷◌}
use native.Mathlib.Omega.{arith}
use native.Mathlib.Nat.{suc_inj, not-suc-le-zero, le_of_suc-le-suc}
use lib.IntN.{ℤ, pos, ◌+ℤ◌}
use lib.Signed.{le_z}
use lib.ListN.{length}
use Rattle.ints.proofs.Order.{parts_alone, le_z_true, parts_le}
use Rattle.ints.specs.Parts.{up, down}
use Rattle.ints.proofs.Sums.{sum_parts}
use Rattle.deciding.proofs.Both.{and_both}
use Rattle.lists.specs.Every.{every}
use Rattle.spectrum.proofs.Extremes.{le_parts}
use Rattle.spectrum.proofs.Kept.{Kept, good_total, kept_keeps, keeps_kept, fallback_kept, length_fallback, length_run, run_kept, moves_most, run_still, run_moved}
use Rattle.spectrum.specs.Distances.{keeps}
use Rattle.spectrum.specs.Fallback.{fallback}
use Rattle.spectrum.specs.Gaps.{good_gaps, Good, Ruled}
use Rattle.spectrum.specs.Stabilising.{stabilise}
use Rattle.spectrum.specs.Statement.{ResultGaps, Twice, ResultWithin}
use Rattle.spectrum.specs.Statement.Always.{EveryGap}
use Rattle.spectrum.specs.Values.{at, top, total, Within}
use Rattle.spectrum.specs.Inner.{◌≼◌}

-- ---- the gap set's test

good_by : (n : ℕ) (g : List ℤ) → length g ≡ suc n → every (le_z (pos 0)) g ≡ true → pos 1 ≼ at g n → Good g
unfolding Good
good_by n [] l e k = absurd (omega arith)
good_by zero (g ∷ []) l e k = (omega (arith, parts_alone g), omega (arith, parts_alone g))
good_by zero (g ∷ (h ∷ gs)) l e k = absurd (omega arith)
good_by (suc n) (g ∷ []) l e k = absurd (omega arith)
good_by (suc n) (g ∷ (h ∷ gs)) l e k =
    let b = and_both (le_z (pos 0) g) (every (le_z (pos 0)) (h ∷ gs)) e in
    let p : pos 0 ≼ g = le_z_true (pos 0) g b.0 in
    (omega (arith, parts_alone g), good_by n (h ∷ gs) (suc_inj l) b.1 k)

-- the test gives the fact
pub ruled : (n : ℕ) (g : List ℤ) → length g ≡ suc n → good_gaps n g ≡ true → Ruled g
unfolding good_gaps
ruled n g l e =
    let b = and_both (every (le_z (pos 0)) g) (le_z (pos 1) (at g n) && le_z (total g) top) e in
    let c = and_both (le_z (pos 1) (at g n)) (le_z (total g) top) b.1 in
    let r = good_by n g l b.0 (le_z_true (pos 1) (at g n) c.0) in
    let t : total g ≼ top = le_z_true (total g) top c.1 in
    let d = good_total g r in
    record { good = r; most = omega (arith, d.0) }

-- ---- place by place

pub kept_at : (p : ℤ) (v g : List ℤ) → Kept p v g → (i : ℕ) → i < length v → (at (p ∷ v) i +ℤ at g i) ≼ at v i
unfolding Kept
kept_at p [] g k i h = absurd (not-suc-le-zero h)
kept_at p (x ∷ v) [] k i h = absurd k
kept_at p (x ∷ v) (a ∷ g) k zero h = k.0
kept_at p (x ∷ v) (a ∷ g) k (suc i) h = kept_at x v g k.1 i (le_of_suc-le-suc h)

pub kept_end : (p : ℤ) (v g : List ℤ) → Kept p v g → (at (p ∷ v) (length v) +ℤ at g (length v)) ≼ top
unfolding Kept
kept_end p [] [] k = absurd k
kept_end p [] (a ∷ g) k = k
kept_end p (x ∷ v) [] k = absurd k
kept_end p (x ∷ v) (a ∷ g) k = kept_end x v g k.1

pub kept_every : (v g : List ℤ) → 0 < length v → Kept (pos 0) v g → EveryGap g v
kept_every v g h k =
    let each = kept_at (pos 0) v g k in
    record {
      first = parts_le (at g 0) (at v 0) (omega (arith, sum_parts (pos 0) (at g 0), each 0 h));
      between = λ i l. parts_le (at v i +ℤ at g (suc i)) (at v (suc i)) (each (suc i) l);
      last = λ i l.
          parts_le (at v i +ℤ at g (suc i)) top
          (subst⁻¹ (λ (n : ℕ). (at (pos 0 ∷ v) n +ℤ at g n) ≼ top) l (kept_end (pos 0) v g k));
    }

-- and back: each value lies a gap above the one before it, and the last a gap below 32,768
pub kept_by : (p : ℤ) (v g : List ℤ) → length g ≡ suc (length v) → ((i : ℕ) → i < length v → (at (p ∷ v) i +ℤ at g i) ≼ at v i)
    → (at (p ∷ v) (length v) +ℤ at g (length v)) ≼ top → Kept p v g
unfolding Kept
kept_by p [] [] l f e = absurd (omega arith)
kept_by p [] (g ∷ gs) l f e = e
kept_by p (x ∷ v) [] l f e = absurd (omega arith)
kept_by p (x ∷ v) (g ∷ gs) l f e = (f 0 (omega arith), kept_by x v gs (suc_inj l) (λ i h. f (suc i) (suc-le-suc h)) e)

pub every_kept : (v g : List ℤ) → length g ≡ suc (length v) → 0 < length v → EveryGap g v → Kept (pos 0) v g
every_kept [] g l h e = absurd (not-suc-le-zero h)
every_kept (x ∷ v) g l h e = kept_by (pos 0) (x ∷ v) g l each (le_parts (e.last (length v) refl))
  where
    each : (i : ℕ) → i < length (x ∷ v) → (at (pos 0 ∷ (x ∷ v)) i +ℤ at g i) ≼ at (x ∷ v) i
    each zero k = let f : at g 0 ≼ x = le_parts e.first in omega (arith, sum_parts (pos 0) (at g 0))
    each (suc i) k = le_parts (e.between i k)

-- ---- each value of a vector that keeps its gaps lies in 0 .. 32,767

-- what stands before values that keep their gaps lies below 32,768, since the last gap is 1 or more
kept_below : (p : ℤ) (v g : List ℤ) → length g ≡ suc (length v) → Good g → Kept p v g → p ≼ pos 32767
unfolding Kept Good
kept_below p [] [] l r k = absurd k
kept_below p [] (a ∷ []) l r k = omega (arith, sum_parts p a, r.0, r.1)
kept_below p [] (a ∷ (b ∷ g)) l r k = absurd (omega arith)
kept_below p (x ∷ v) [] l r k = absurd k
kept_below p (x ∷ v) (a ∷ []) l r k = absurd (omega arith)
kept_below p (x ∷ v) (a ∷ (b ∷ g)) l r k =
    let f : (p +ℤ a) ≼ x = k.0 in omega (arith, sum_parts p a, r.0, f, kept_below x v (b ∷ g) (suc_inj l) r.1 k.1)

pub kept_within : (p : ℤ) (v g : List ℤ) → length g ≡ suc (length v) → Good g → pos 0 ≼ p → Kept p v g → Within 0 32767 v
unfolding Kept Good Within
kept_within p [] g l r z k = tt
kept_within p (x ∷ v) [] l r z k = absurd k
kept_within p (x ∷ v) (a ∷ []) l r z k = absurd (omega arith)
kept_within p (x ∷ v) (a ∷ (b ∷ g)) l r z k =
    let f : (p +ℤ a) ≼ x = k.0 in
    let b0 : pos 0 ≼ x = omega (arith, sum_parts p a, r.0, f) in
    let b1 : x ≼ pos 32767 = kept_below x v (b ∷ g) (suc_inj l) r.1 k.1 in
    ((omega (arith, parts_alone x), omega (arith, parts_alone x)), kept_within x v (b ∷ g) (suc_inj l) r.1 b0 k.1)

-- so does each of the fallback's result
pub fallback_within : (g v : List ℤ) → Ruled g → length g ≡ suc (length v) → Within 0 32767 (fallback g v)
fallback_within g v r l =
    kept_within (pos 0) (fallback g v) g (l ∙ ap suc (sym (length_fallback g v))) r.good (omega arith)
    (fallback_kept g v l r.good r.most)

pub within_at : (lo hi : ℕ) (v : List ℤ) → Within lo hi v → (i : ℕ) → (down (at v i) ≤ lo) × (up (at v i) ≤ hi)
unfolding Within
within_at lo hi [] h i = (omega arith, omega arith)
within_at lo hi (x ∷ v) h zero = h.0
within_at lo hi (x ∷ v) h (suc i) = within_at lo hi v h.1 i

-- at most 20 moves, whatever the gaps
pub few_moves : (g v : List ℤ) → (stabilise g v).moves ≤ 20
unfolding stabilise
few_moves g v = moves_most 20 g v

-- ---- the laws, over the test of the gap set

module _ (g v : List ℤ) (l : length g ≡ suc (length v)) (e : good_gaps (length v) g ≡ true) where
  kept : Kept (pos 0) (stabilise g v).vector g
  unfolding stabilise
  kept = run_kept 20 g v l (ruled (length v) g l e).good (ruled (length v) g l e).most

  -- a vector that keeps its gaps is returned unchanged, with 0 moves; no other is
  pub unmoved : keeps g v ≡ true → stabilise g v ≡ record { vector = v; moves = 0 }
  unfolding stabilise
  unmoved h = run_still 19 g v h

  pub moved : (stabilise g v).moves ≡ 0 → keeps g v ≡ true
  unfolding stabilise
  moved h = run_moved 19 g v h

  -- the same in every gap's words
  pub still : 0 < length v → EveryGap g v → stabilise g v ≡ record { vector = v; moves = 0 }
  still h k = unmoved (kept_keeps v g (every_kept v g l h k))

  pub moved_not : 0 < length v → (stabilise g v).moves ≡ 0 → EveryGap g v
  moved_not h k = kept_every v g h (keeps_kept v g l (moved k))

  pub as_long : length (stabilise g v).vector ≡ length v
  unfolding stabilise
  as_long = length_run 20 g v

  long : length g ≡ suc (length (stabilise g v).vector)
  long = l ∙ ap suc (sym as_long)

-- ---- the laws that are promised

pub every_gap : ResultGaps
every_gap g v l e h =
    kept_every (stabilise g v).vector g (omega (arith, as_long g v l e)) (kept g v l e)

pub twice : Twice
unfolding stabilise
twice g v l e =
    run_still 19 g (stabilise g v).vector (kept_keeps (stabilise g v).vector g (kept g v l e))

pub result_within : ResultWithin
result_within g v l e =
    kept_within (pos 0) (stabilise g v).vector g (long g v l e) (ruled (length v) g l e).good (omega arith)
    (kept g v l e)
