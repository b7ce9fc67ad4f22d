-- The place of the first smallest difference, as a loop finds it, and what the loop of moves leans on. Assumes nothing.
use Prim.Native.Nat.{ℕ, zero, suc, ◌+◌, ◌≤◌, ◌<◌, suc-le-suc}
use mathlib.Core.Path.{◌≡◌, refl, sym, ap, subst, ◌∙◌}
use mathlib.Core.Bool.{Bool, true, false, cond}
use mathlib.Core.List.{List, [], ◌∷◌}
use native.Mathlib.Omega.{arith}
use native.Mathlib.Nat.{suc_inj, not-le_of_lt, not-suc-le-zero, le_of_suc-le-suc}
use borrow.Author.Tests.{ltb-true, ltb-false}
use lib.Dec.{ltb}
use lib.IntN.{ℤ, ◌+ℤ◌, ◌-ℤ◌}
use lib.Signed.{le_z}
use lib.ListN.{length, get_or}
use Rattle.ints.proofs.Order.{le_z_false}
use Rattle.ints.specs.Parts.{up, down}
use Rattle.spectrum.proofs.Extremes.{min_left, min_right}
use Rattle.spectrum.proofs.MoveBounds.{first_most_lem}
use Rattle.spectrum.proofs.Settled.{run_settled}
use Rattle.spectrum.specs.Distances.{diffs, least, first_least, keeps, place, move}
use Rattle.spectrum.specs.Fallback.{fallback}
use Rattle.spectrum.specs.Gaps.{Good}
use Rattle.spectrum.specs.Stabilising.{Stable, one_more, run}
use Rattle.spectrum.specs.Values.{at, top, min_z}
use Rattle.spectrum.specs.Inner.{◌≼◌, First}

-- there is only one
no_less : (f : ℕ → ℤ) (n r s : ℕ) → First f n r → First f n s → r ≤ s
no_less f n r s p q = go (ltb s r) refl
  where
    go : (t : Bool) → ltb s r ≡ t → r ≤ s
    go true e = absurd (not-le_of_lt (p.before s (ltb-true s r e)) (q.least r p.within))
    go false e = ltb-false s r e

first_only : (f : ℕ → ℤ) (n r s : ℕ) → First f n r → First f n s → r ≡ s
first_only f n r s p q = omega (arith, no_less f n r s p q, no_less f n s r q p)

-- ---- `first_least` is that place, and `least` the number there

pub least_at : (l : List ℤ) → least l ≡ at l (first_least l)
unfolding least first_least min_z
least_at [] = refl
least_at (x ∷ []) = refl
least_at (x ∷ (y ∷ r)) = go (le_z x (least (y ∷ r))) (least_at (y ∷ r))
  where
    go : (t : Bool) → least (y ∷ r) ≡ at (y ∷ r) (first_least (y ∷ r))
        → cond t x (least (y ∷ r)) ≡ at (x ∷ (y ∷ r)) (cond t 0 (suc (first_least (y ∷ r))))
    go true e = refl
    go false e = e

pub below_all : (l : List ℤ) (k : ℕ) → k < length l → least l ≼ at l k
unfolding least
below_all [] k h = absurd (not-suc-le-zero h)
below_all (x ∷ []) zero h = omega arith
below_all (x ∷ []) (suc k) h = absurd (not-suc-le-zero (le_of_suc-le-suc h))
below_all (x ∷ (y ∷ r)) zero h = min_left x (least (y ∷ r))
below_all (x ∷ (y ∷ r)) (suc k) h = omega (arith, min_right x (least (y ∷ r)), below_all (y ∷ r) k (le_of_suc-le-suc h))

-- nothing before the place is as small
before_all : (l : List ℤ) (k : ℕ) → k < first_least l → up (least l) + down (at l k) < up (at l k) + down (least l)
unfolding least first_least min_z
before_all [] k h = absurd (not-suc-le-zero h)
before_all (x ∷ []) k h = absurd (not-suc-le-zero h)
before_all (x ∷ (y ∷ r)) k h = go (le_z x (least (y ∷ r))) refl h (λ j i. before_all (y ∷ r) j i) k h
  where
    go : (t : Bool) → le_z x (least (y ∷ r)) ≡ t → k < cond t 0 (suc (first_least (y ∷ r)))
        → ((j : ℕ) → j < first_least (y ∷ r) → up (least (y ∷ r)) + down (at (y ∷ r) j) < up (at (y ∷ r) j) + down (least (y ∷ r)))
        → (j : ℕ) → j < cond t 0 (suc (first_least (y ∷ r)))
        → up (cond t x (least (y ∷ r))) + down (at (x ∷ (y ∷ r)) j) < up (at (x ∷ (y ∷ r)) j) + down (cond t x (least (y ∷ r)))
    go true e h f j i = absurd (not-suc-le-zero i)
    go false e h f zero i = le_z_false x (least (y ∷ r)) e
    go false e h f (suc j) i = f j (le_of_suc-le-suc i)

first_least_lem : (l : List ℤ) (n : ℕ) → length l ≡ suc n → First (at l) (suc n) (first_least l)
first_least_lem l n e =
    record {
      within = suc-le-suc (first_most_lem l n e);
      least = λ k h. subst (λ (z : ℤ). z ≼ at l k) (least_at l) (below_all l k (subst (λ (m : ℕ). k < m) (sym e) h));
      before = λ k h. subst (λ (z : ℤ). up z + down (at l k) < up (at l k) + down z) (least_at l) (before_all l k h);
    }

-- so a loop that ends with such a place has found `first_least`, and the number there is `least`
pub found : (l : List ℤ) (n r : ℕ) → length l ≡ suc n → First (at l) (suc n) r → (r ≡ first_least l) × (at l r ≡ least l)
found l n r e f =
    let p : r ≡ first_least l = first_only (at l) (suc n) r (first_least l) f (first_least_lem l n e) in
    (p, ap (at l) p ∙ sym (least_at l))

-- ---- the differences, place by place: 32,768 stands behind the last value

pub diff_at : (p : ℤ) (v g : List ℤ) (i : ℕ) → length g ≡ suc (length v) → i ≤ length v
    → at (diffs p v g) i ≡ get_or v i top -ℤ (get_or (p ∷ v) i top +ℤ at g i)
unfolding diffs
diff_at p [] [] i l h = absurd (omega arith)
diff_at p [] (g ∷ gs) zero l h = refl
diff_at p [] (g ∷ gs) (suc i) l h = absurd (not-suc-le-zero h)
diff_at p (v ∷ vs) [] i l h = absurd (omega arith)
diff_at p (v ∷ vs) (g ∷ gs) zero l h = refl
diff_at p (v ∷ vs) (g ∷ gs) (suc i) l h = diff_at v vs gs i (suc_inj l) (le_of_suc-le-suc h)

-- ---- what the loop of moves leans on: m moves made, at most n to come

abbrev pub after : ℕ → Stable → Stable
after m s = record { vector = s.vector; moves = m + s.moves }

pub turn_stop : (m n : ℕ) (g v : List ℤ) → length g ≡ suc (length v) → Good g → keeps g v ≡ true
    → after m (run n g v) ≡ record { vector = v; moves = m }
turn_stop m n g v l r e =
    ap (after m) (run_settled n g v l r e) ∙ (let z : m + 0 ≡ m = omega arith in ap (λ (k : ℕ). record { vector = v; moves = k }) z)

pub turn_move : (m n : ℕ) (g v : List ℤ) → keeps g v ≡ false
    → after m (run (suc n) g v) ≡ after (m + 1) (run n g (move g v (place g v)))
unfolding run
turn_move m n g v e =
    let s = run n g (move g v (place g v)) in
    ap (λ (t : Bool). after m (cond t (record { vector = v; moves = 0 }) (one_more s))) e
    ∙ (let z : m + suc s.moves ≡ m + 1 + s.moves = omega arith in ap (λ (k : ℕ). record { vector = s.vector; moves = k }) z)

pub turn_end : (m : ℕ) (g v : List ℤ) → after m (run 0 g v) ≡ record { vector = fallback g v; moves = m }
unfolding run
turn_end m g v = let z : m + 0 ≡ m = omega arith in ap (λ (k : ℕ). record { vector = fallback g v; moves = k }) z
