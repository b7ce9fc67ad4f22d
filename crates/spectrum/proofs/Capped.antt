-- Values above 32,767 may be stored as 32,767 before the fallback: it answers the same. Assumes nothing.
use Prim.Native.Nat.{ℕ, suc, ◌+◌, ◌≤◌, ◌<◌, suc-le-suc}
use mathlib.Core.Path.{◌≡◌, refl, sym, ap, ap₂, ◌∙◌}
use mathlib.Core.List.{List, [], ◌∷◌, map}
use native.Mathlib.Omega.{arith}
use lib.IntN.{ℤ, pos, negsuc, ◌+ℤ◌, ◌-ℤ◌}
use lib.ListN.{length, drop}
use Rattle.ints.proofs.Order.{parts_same}
use Rattle.ints.proofs.Sums.{sum_parts}
use Rattle.ints.specs.Parts.{up, down}
use Rattle.spectrum.proofs.Extremes.{chosen_le_z, min_left, min_right, min_least, held_most, held_above}
use Rattle.spectrum.proofs.Kept.{length_sorted}
use Rattle.spectrum.proofs.MoveBounds.{good_at, cut}
use Rattle.spectrum.proofs.Results.{fallback_within}
use Rattle.spectrum.proofs.Settled.{max_own, min_own}
use Rattle.spectrum.proofs.Sorting.{Rising, rising_only, sorted_rising, sorted_count}
use Rattle.spectrum.specs.Fallback.{insert, sorted, sat16, climb, raised, front, lowered, fallback}
use Rattle.spectrum.specs.Gaps.{Ruled}
use Rattle.spectrum.specs.Values.{at, max_z, min_z, Within}
use Rattle.spectrum.specs.Inner.{◌≼◌, is, count, capped}

-- ---- each value in -lo .. hi

pub within_by : (lo hi : ℕ) (v : List ℤ) → ((i : ℕ) → i < length v → (down (at v i) ≤ lo) × (up (at v i) ≤ hi)) → Within lo hi v
unfolding Within
within_by lo hi [] f = tt
within_by lo hi (x ∷ v) f = (f 0 (omega arith), within_by lo hi v (λ i h. f (suc i) (suc-le-suc h)))

pub within_wider : (lo hi hi' : ℕ) (v : List ℤ) → hi ≤ hi' → Within lo hi v → Within lo hi' v
unfolding Within
within_wider lo hi hi' [] h k = tt
within_wider lo hi hi' (x ∷ v) h k = ((k.0.0, omega (arith, k.0.1)), within_wider lo hi hi' v h k.1)

pub capped_same : (lo : ℕ) (v : List ℤ) → Within lo 32767 v → map capped v ≡ v
unfolding Within capped
capped_same lo [] h = refl
capped_same lo (x ∷ v) h =
    ap₂ (λ (y : ℤ) (w : List ℤ). y ∷ w) (min_own x (pos 32767) (omega (arith, h.0.1))) (capped_same lo v h.1)

-- ---- sorting: a capped list rises where the list does, and counts as the list does

capped_rising : (l : List ℤ) → Rising l → Rising (map capped l)
unfolding Rising capped
capped_rising [] h = tt
capped_rising (x ∷ []) h = tt
capped_rising (x ∷ (y ∷ l)) h =
    let k : x ≼ y = h.0 in
    let e : capped x ≼ y = omega (arith, min_left x (pos 32767)) in
    (min_least y (pos 32767) (capped x) e (min_right x (pos 32767)), capped_rising (y ∷ l) h.1)

insert_capped : (z x : ℤ) (r : List ℤ) → count z (map capped (insert x r)) ≡ is z (capped x) + count z (map capped r)
unfolding insert count
insert_capped z x [] = refl
insert_capped z x (y ∷ r) =
    chosen_le_z (λ (l : List ℤ). count z (map capped l) ≡ is z (capped x) + (is z (capped y) + count z (map capped r))) x y (λ h. refl)
    (λ h. omega (arith, insert_capped z x r))

count_capped : (z : ℤ) (v : List ℤ) → count z (map capped (sorted v)) ≡ count z (map capped v)
unfolding sorted count
count_capped z [] = refl
count_capped z (x ∷ v) = insert_capped z x (sorted v) ∙ ap (λ (n : ℕ). is z (capped x) + n) (count_capped z v)

sorted_capped : (v : List ℤ) → sorted (map capped v) ≡ map capped (sorted v)
sorted_capped v =
    rising_only (sorted (map capped v)) (map capped (sorted v)) (sorted_rising (map capped v))
    (capped_rising (sorted v) (sorted_rising v)) (λ z. sorted_count z (map capped v) ∙ sym (count_capped z v))

-- ---- upward

max_capped : (x y : ℤ) → y ≼ pos 32767 → max_z (capped x) y ≡ capped (max_z x y)
unfolding max_z capped
max_capped x y h =
    chosen_le_z (λ (z : ℤ). max_z (capped x) y ≡ capped z) x y (λ k. upper k ∙ sym (min_own y (pos 32767) h))
    (λ k. max_own (capped x) y (min_least x (pos 32767) y k h))
  where
    upper : x ≼ y → max_z (capped x) y ≡ y
    upper k =
        chosen_le_z (λ (z : ℤ). z ≡ y) (capped x) y (λ j. refl) (λ j. parts_same (capped x) y (omega (arith, min_left x (pos 32767))))

sat_most : (z : ℤ) → sat16 z ≼ pos 32767
sat_most z = held_most (negsuc 32767) (pos 32767) z (omega arith)

sat_full : (z : ℤ) → pos 32767 ≼ z → sat16 z ≡ pos 32767
sat_full z h =
    parts_same (sat16 z) (pos 32767)
    (omega (arith, sat_most z, held_above (negsuc 32767) (pos 32767) z (pos 32767) (omega arith) h))

sat_capped : (p a : ℤ) → down a ≡ 0 → sat16 (capped p +ℤ a) ≡ sat16 (p +ℤ a)
unfolding capped min_z
sat_capped p a h =
    chosen_le_z (λ (z : ℤ). sat16 (z +ℤ a) ≡ sat16 (p +ℤ a)) p (pos 32767) (λ k. refl)
    (λ k. sat_full (pos 32767 +ℤ a) (omega (arith, sum_parts (pos 32767) a)) ∙ sym (sat_full (p +ℤ a) (omega (arith, sum_parts p a))))

-- a first value y that is x capped, and the pass on from there
climb_capped : (y x : ℤ) (v g : List ℤ) → y ≡ capped x → ((i : ℕ) → down (at g i) ≡ 0)
    → y ∷ climb y (map capped v) g ≡ map capped (x ∷ climb x v g)
unfolding climb
climb_capped y x [] g e f = ap (λ (z : ℤ). z ∷ []) e
climb_capped y x (w ∷ v) [] e f = ap (λ (z : ℤ). z ∷ map capped (w ∷ v)) e
climb_capped y x (w ∷ v) (a ∷ g) e f =
    let s = sat16 (x +ℤ a) in
    let next : max_z (capped w) (sat16 (y +ℤ a)) ≡ capped (max_z w s) =
    ap (λ (z : ℤ). max_z (capped w) (sat16 (z +ℤ a))) e
    ∙ ap (max_z (capped w)) (sat_capped x a (f 0))
    ∙ max_capped w s (sat_most (x +ℤ a)) in
    ap₂ (λ (z : ℤ) (l : List ℤ). z ∷ l) e (climb_capped (max_z (capped w) (sat16 (y +ℤ a))) (max_z w s) v g next (λ i. f (suc i)))

raised_capped : (g v : List ℤ) → Ruled g → length g ≡ suc (length v) → raised g (map capped v) ≡ map capped (raised g v)
unfolding raised
raised_capped g [] r l = refl
raised_capped [] (x ∷ v) r l = refl
raised_capped (a ∷ g) (x ∷ v) r l =
    let c = cut (a ∷ g) 0 (suc (length v)) l (omega arith) r.good in
    let h : a ≼ pos 32767 = omega (arith, c.some, c.all, r.most) in
    climb_capped (max_z (capped x) a) (max_z x a) v g (max_capped x a h) (λ i. (good_at (a ∷ g) r.good (suc i)).0)

-- ---- downward: what lies at 32,767 or below in the end was not capped

min_capped : (x y : ℤ) → min_z x y ≼ pos 32767 → min_z (capped x) y ≡ min_z x y
unfolding capped
min_capped x y h =
    let a = min_z (capped x) y in
    let b = min_z x y in
    let p : a ≼ b = min_least x y a (omega (arith, min_left x (pos 32767), min_left (capped x) y)) (min_right (capped x) y) in
    let q : b ≼ a = min_least (capped x) y b (min_least x (pos 32767) b (min_left x y) h) (min_right x y) in
    parts_same a b (omega (arith, p, q))

lowered_capped : (g v : List ℤ) → Within 0 32767 (lowered g v) → lowered g (map capped v) ≡ lowered g v
unfolding lowered Within
lowered_capped g [] h = refl
lowered_capped [] (x ∷ v) h = capped_same 0 (x ∷ v) h
lowered_capped (a ∷ g) (x ∷ v) h =
    let e = lowered_capped g v h.1 in
    ap₂ (λ (y : ℤ) (w : List ℤ). y ∷ w)
    (ap (λ (w : List ℤ). min_z (capped x) (front w -ℤ a)) e ∙ min_capped x (front (lowered g v) -ℤ a) (omega (arith, h.0.1))) e

pub fallback_capped : (g v : List ℤ) → Ruled g → length g ≡ suc (length v) → fallback g (map capped v) ≡ fallback g v
unfolding fallback
fallback_capped g v r l =
    ap (λ (u : List ℤ). lowered (drop 1 g) (raised g u)) (sorted_capped v)
    ∙ ap (lowered (drop 1 g)) (raised_capped g (sorted v) r (l ∙ ap suc (sym (length_sorted v))))
    ∙ lowered_capped (drop 1 g) (raised g (sorted v)) (fallback_within g v r l)
