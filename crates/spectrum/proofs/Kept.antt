-- The stabiliser's result keeps every gap, whatever the moves do: it is a vector that passed the test, or the fallback's, which keeps
-- every gap for any list. Assumes nothing.
use Prim.Native.Nat.{ℕ, zero, suc, ◌+◌, ◌≤◌}
use mathlib.Core.Path.{◌≡◌, refl, sym, ap, ◌∙◌}
use mathlib.Core.Bool.{Bool, true, false, cond}
use mathlib.Core.List.{List, [], ◌∷◌}
use native.Mathlib.Omega.{arith}
use native.Mathlib.Nat.{suc_inj}
use lib.Dec.{eqb}
use lib.IntN.{ℤ, pos, negsuc, ◌+ℤ◌, ◌-ℤ◌}
use lib.ListN.{length, set, drop, length-set}
use Rattle.ints.proofs.Order.{le_z_true}
use Rattle.ints.specs.Parts.{up, down}
use Rattle.ints.proofs.Sums.{sum_parts, up_sum, down_sum, diff_parts}
use Rattle.deciding.proofs.Choice.{chosen}
use Rattle.spectrum.proofs.Extremes.{chosen_le_z, le_le_z, max_right, min_left, min_right, min_least, held_above}
use Rattle.spectrum.specs.Distances.{diffs, least, keeps, place, new_low, new_high, move}
use Rattle.spectrum.specs.Fallback.{insert, sorted, sat16, climb, raised, front, lowered, fallback}
use Rattle.spectrum.specs.Gaps.{Good}
use Rattle.spectrum.specs.Stabilising.{Stable, one_more, run}
use Rattle.spectrum.specs.Values.{at, top, max_z, total}
use Rattle.spectrum.specs.Inner.{◌≼◌}

unfoldable pub Kept : ℤ → List ℤ → List ℤ → Type 0
Kept p [] [] = ⊥
Kept p [] (g ∷ gs) = (p +ℤ g) ≼ top
Kept p (v ∷ vs) [] = ⊥
Kept p (v ∷ vs) (g ∷ gs) = ((p +ℤ g) ≼ v) × Kept v vs gs

-- ---- gap sets

-- the last gap is 1 or more: so is every rest of the set
pub good_total : (gs : List ℤ) → Good gs → (down (total gs) ≡ 0) × (1 ≤ up (total gs))
unfolding Good total
good_total [] r = absurd r
good_total (g ∷ []) r = (omega (arith, down_sum g (pos 0)), omega (arith, up_sum g (pos 0)))
good_total (g ∷ (h ∷ gs)) r =
    let i = good_total (h ∷ gs) r.1 in
    (omega (arith, down_sum g (total (h ∷ gs)), i.0, r.0), omega (arith, up_sum g (total (h ∷ gs)), i.0, i.1, r.0))

-- ---- the test and the fact

unfoldable pub AllNat : List ℤ → Type 0
AllNat [] = Unit {0}
AllNat (x ∷ r) = (pos 0 ≼ x) × AllNat r

least_nat : (l : List ℤ) → AllNat l → pos 0 ≼ least l
unfolding AllNat least
least_nat [] h = omega arith
least_nat (x ∷ []) h = h.0
least_nat (x ∷ (y ∷ r)) h = min_least x (least (y ∷ r)) (pos 0) h.0 (least_nat (y ∷ r) h.1)

nat_least : (l : List ℤ) → pos 0 ≼ least l → AllNat l
unfolding AllNat least
nat_least [] h = tt
nat_least (x ∷ []) h = (h, tt)
nat_least (x ∷ (y ∷ r)) h = (omega (arith, min_left x (least (y ∷ r))), nat_least (y ∷ r) (omega (arith, min_right x (least (y ∷ r)))))

kept_diffs : (p : ℤ) (v g : List ℤ) → Kept p v g → AllNat (diffs p v g)
unfolding AllNat diffs Kept
kept_diffs p [] [] h = absurd h
kept_diffs p [] (g ∷ gs) h = (omega (arith, diff_parts top (p +ℤ g)), tt)
kept_diffs p (v ∷ vs) [] h = absurd h
kept_diffs p (v ∷ vs) (g ∷ gs) h = let k : (p +ℤ g) ≼ v = h.0 in (omega (arith, diff_parts v (p +ℤ g)), kept_diffs v vs gs h.1)

diffs_kept : (p : ℤ) (v g : List ℤ) → length g ≡ suc (length v) → AllNat (diffs p v g) → Kept p v g
unfolding AllNat diffs Kept
diffs_kept p [] [] l h = omega arith
diffs_kept p [] (g ∷ gs) l h = let k : pos 0 ≼ (top -ℤ (p +ℤ g)) = h.0 in omega (arith, diff_parts top (p +ℤ g))
diffs_kept p (v ∷ vs) [] l h = omega arith
diffs_kept p (v ∷ vs) (g ∷ gs) l h =
    let k : pos 0 ≼ (v -ℤ (p +ℤ g)) = h.0 in (omega (arith, diff_parts v (p +ℤ g)), diffs_kept v vs gs (suc_inj l) h.1)

pub kept_keeps : (v g : List ℤ) → Kept (pos 0) v g → keeps g v ≡ true
unfolding keeps
kept_keeps v g h = le_le_z (pos 0) (least (diffs (pos 0) v g)) (least_nat (diffs (pos 0) v g) (kept_diffs (pos 0) v g h))

pub keeps_kept : (v g : List ℤ) → length g ≡ suc (length v) → keeps g v ≡ true → Kept (pos 0) v g
unfolding keeps
keeps_kept v g l e =
    diffs_kept (pos 0) v g l (nat_least (diffs (pos 0) v g) (le_z_true (pos 0) (least (diffs (pos 0) v g)) e))

-- ---- the downward pass: value i lies at or above the sum s of the gaps up to it

unfoldable pub Above : ℕ → List ℤ → List ℤ → Type 0
Above s [] gs = Unit {0}
Above s (v ∷ vs) [] = pos s ≼ v
Above s (v ∷ vs) (g ∷ gs) = (pos s ≼ v) × Above (s + up g) vs gs

-- what stands behind a value, and that the rest keeps its gaps from it
unfoldable pub Rest : List ℤ → List ℤ → Type 0
Rest gs [] = gs ≡ []
Rest gs (x ∷ xs) = Kept x xs gs

lowered_keeps : (s : ℕ) (g : ℤ) (gs : List ℤ) (v : ℤ) (vs : List ℤ) → length gs ≡ length vs → Good (g ∷ gs) → Above s (v ∷ vs) (g ∷ gs)
    → s + up (total (g ∷ gs)) ≤ 32768 → (pos s ≼ front (lowered (g ∷ gs) (v ∷ vs))) × Rest (g ∷ gs) (lowered (g ∷ gs) (v ∷ vs))
unfolding lowered Above Rest Kept Good total
lowered_keeps s g [] v [] l r a b =
    let d : down g ≡ 0 = r.0 in
    let k : pos s ≼ v = a.0 in
    let y = front [] in
    let m = min_least v (y -ℤ g) (pos s) k (omega (arith, diff_parts y g, up_sum g (pos 0), down_sum g (pos 0))) in
    (omega (arith, m), omega (arith, sum_parts (front (lowered (g ∷ []) (v ∷ []))) g, diff_parts y g, min_right v (y -ℤ g)))
lowered_keeps s g [] v (w ∷ ws) l r a b = absurd (omega arith)
lowered_keeps s g (h ∷ gs) v [] l r a b = absurd (omega arith)
lowered_keeps s g (h ∷ gs) v (w ∷ ws) l r a b =
    let d : down g ≡ 0 = r.0 in
    let k : pos s ≼ v = a.0 in
    let t = good_total (h ∷ gs) r.1 in
    let i = lowered_keeps (s + up g) h gs w ws (suc_inj l) r.1 a.1 (omega (arith, up_sum g (total (h ∷ gs)), t.0, d)) in
    let y = front (lowered (h ∷ gs) (w ∷ ws)) in
    let f : pos (s + up g) ≼ y = i.0 in
    let m = min_least v (y -ℤ g) (pos s) k (omega (arith, diff_parts y g)) in (
      omega (arith, m),
      (omega (arith, sum_parts (front (lowered (g ∷ h ∷ gs) (v ∷ w ∷ ws))) g, diff_parts y g, min_right v (y -ℤ g)), i.1),
    )

-- ---- the upward pass: each value reaches the sum of the gaps up to it, below which the saturation does not bite

climb_above : (s : ℕ) (p : ℤ) (g : ℤ) (gs vs : List ℤ) → length gs ≡ length vs → Good (g ∷ gs) → pos s ≼ p
    → s + up (total (g ∷ gs)) ≤ 32768 → Above (s + up g) (climb p vs (g ∷ gs)) gs
unfolding climb Above Good total
climb_above s p g gs [] l r k b = tt
climb_above s p g [] (v ∷ vs) l r k b = absurd (omega arith)
climb_above s p g (h ∷ gs) (v ∷ vs) l r k b =
    let d : down g ≡ 0 = r.0 in
    let t = good_total (h ∷ gs) r.1 in
    let x = max_z v (sat16 (p +ℤ g)) in
    let c : pos (s + up g) ≼ sat16 (p +ℤ g) =
    held_above (negsuc 32767) (pos 32767) (p +ℤ g) (pos (s + up g)) (omega (arith, up_sum g (total (h ∷ gs)), t.0, t.1, d))
    (omega (arith, sum_parts p g, d)) in
    let f : pos (s + up g) ≼ x = omega (arith, c, max_right v (sat16 (p +ℤ g))) in
    (f, climb_above (s + up g) x h gs vs (suc_inj l) r.1 f (omega (arith, up_sum g (total (h ∷ gs)), t.0, d)))

-- ---- lengths

length_insert : (x : ℤ) (r : List ℤ) → length (insert x r) ≡ suc (length r)
unfolding insert
length_insert x [] = refl
length_insert x (y ∷ r) = chosen_le_z (λ (l : List ℤ). length l ≡ suc (suc (length r))) x y (λ h. refl) (λ h. ap suc (length_insert x r))

pub length_sorted : (v : List ℤ) → length (sorted v) ≡ length v
unfolding sorted
length_sorted [] = refl
length_sorted (x ∷ r) = length_insert x (sorted r) ∙ ap suc (length_sorted r)

pub length_move : (g v : List ℤ) (i : ℕ) → length (move g v i) ≡ length v
unfolding move
length_move g v zero = length-set v 0 ((at g 0))
length_move g v (suc j) = go (eqb (suc j) (length v))
  where
    go : (t : Bool) → length (cond t (set v j ((top -ℤ at g (suc j))))
        (set (set v j (new_low g (suc j) (at v j) (at v (suc j)))) (suc j) (new_high g (suc j) (at v j) (at v (suc j))))) ≡ length v
    go true = length-set v j ((top -ℤ at g (suc j)))
    go false =
        length-set (set v j (new_low g (suc j) (at v j) (at v (suc j)))) (suc j) (new_high g (suc j) (at v j) (at v (suc j)))
        ∙ length-set v j (new_low g (suc j) (at v j) (at v (suc j)))

pub length_climb : (p : ℤ) (gs vs : List ℤ) → length (climb p vs gs) ≡ length vs
unfolding climb
length_climb p gs [] = refl
length_climb p [] (v ∷ vs) = refl
length_climb p (g ∷ gs) (v ∷ vs) = ap suc (length_climb (max_z v (sat16 (p +ℤ g))) gs vs)

-- ---- the fallback keeps every gap, whatever the vector

pub fallen_kept : (g u : List ℤ) → length g ≡ suc (length u) → Good g → up (total g) ≤ 32768
    → Kept (pos 0) (lowered (drop 1 g) (raised g u)) g
unfolding raised lowered Kept Good Rest Above total
fallen_kept [] u l r b = absurd r
fallen_kept (g ∷ gs) [] l r b =
    let t = good_total (g ∷ gs) r in one g gs r b
  where
    one : (g : ℤ) (gs : List ℤ) → Good (g ∷ gs) → up (total (g ∷ gs)) ≤ 32768 → (pos 0 +ℤ g) ≼ top
    one g [] r b = let d : down g ≡ 0 = r.0 in omega (arith, sum_parts (pos 0) g, up_sum g (pos 0), d)
    one g (h ∷ gs) r b =
        let d : down g ≡ 0 = r.0 in
        let t = good_total (h ∷ gs) r.1 in omega (arith, sum_parts (pos 0) g, up_sum g (total (h ∷ gs)), d, t.0)
fallen_kept (g ∷ []) (v ∷ vs) l r b = absurd (omega arith)
fallen_kept (g ∷ (h ∷ gs)) (v ∷ vs) l r b =
    let d : down g ≡ 0 = r.0 in
    let t = good_total (h ∷ gs) r.1 in
    let x = max_z v g in
    let k : pos (up g) ≼ x = omega (arith, max_right v g, d) in
    let m : up g + up (total (h ∷ gs)) ≤ 32768 = omega (arith, up_sum g (total (h ∷ gs)), t.0, d) in
    let n : length gs ≡ length vs = suc_inj (suc_inj l) in
    let i =
    lowered_keeps (up g) h gs x (climb x vs (h ∷ gs)) (n ∙ sym (length_climb x (h ∷ gs) vs)) r.1
    (k, climb_above (up g) x h gs vs n r.1 k m) m in
    let y = front (lowered (h ∷ gs) (x ∷ climb x vs (h ∷ gs))) in
    let f : pos (up g) ≼ y = i.0 in
    (omega (arith, sum_parts (pos 0) g, f, d), i.1)

pub fallback_kept : (g v : List ℤ) → length g ≡ suc (length v) → Good g → up (total g) ≤ 32768 → Kept (pos 0) (fallback g v) g
unfolding fallback
fallback_kept g v l r b = fallen_kept g (sorted v) (l ∙ ap suc (sym (length_sorted v))) r b

pub length_raised : (g v : List ℤ) → length (raised g v) ≡ length v
unfolding raised
length_raised g [] = refl
length_raised [] (v ∷ vs) = refl
length_raised (g ∷ gs) (v ∷ vs) = ap suc (length_climb (max_z v g) gs vs)

pub length_lowered : (g v : List ℤ) → length (lowered g v) ≡ length v
unfolding lowered
length_lowered g [] = refl
length_lowered [] (v ∷ vs) = refl
length_lowered (g ∷ gs) (v ∷ vs) = ap suc (length_lowered gs vs)

pub length_fallback : (g v : List ℤ) → length (fallback g v) ≡ length v
unfolding fallback
length_fallback g v = length_lowered (drop 1 g) (raised g (sorted v)) ∙ length_raised g (sorted v) ∙ length_sorted v

-- ---- the run

pub length_run : (n : ℕ) (g v : List ℤ) → length (run n g v).vector ≡ length v
unfolding run
length_run zero g v = length_fallback g v
length_run (suc n) g v =
    chosen (λ (s : Stable). length s.vector ≡ length v) (keeps g v) (λ e. refl)
    (λ e. length_run n g (move g v (place g v)) ∙ length_move g v (place g v))

pub run_kept : (n : ℕ) (g v : List ℤ) → length g ≡ suc (length v) → Good g → up (total g) ≤ 32768
    → Kept (pos 0) (run n g v).vector g
unfolding run
run_kept zero g v l r b = fallback_kept g v l r b
run_kept (suc n) g v l r b =
    chosen (λ (s : Stable). Kept (pos 0) s.vector g) (keeps g v) (λ e. keeps_kept v g l e)
    (λ e. run_kept n g (move g v (place g v)) (l ∙ ap suc (sym (length_move g v (place g v)))) r b)

-- ---- moves

pub moves_most : (n : ℕ) (g v : List ℤ) → (run n g v).moves ≤ n
unfolding run
moves_most zero g v = omega arith
moves_most (suc n) g v =
    chosen (λ (s : Stable). s.moves ≤ suc n) (keeps g v) (λ e. omega arith)
    (λ e. omega (arith, moves_most n g (move g v (place g v))))

-- a vector that keeps its gaps is handed back, with 0 moves
pub run_still : (n : ℕ) (g v : List ℤ) → keeps g v ≡ true → run (suc n) g v ≡ record { vector = v; moves = 0 }
unfolding run
run_still n g v e =
    ap (λ (t : Bool). cond t (record { vector = v; moves = 0 }) (one_more (run n g (move g v (place g v))))) e

-- and 0 moves are made of no other
pub run_moved : (n : ℕ) (g v : List ℤ) → (run (suc n) g v).moves ≡ 0 → keeps g v ≡ true
unfolding run
run_moved n g v h = go (keeps g v) h
  where
    go : (t : Bool) → (cond t (record { vector = v; moves = 0 }) (one_more (run n g (move g v (place g v))))).moves ≡ 0 → t ≡ true
    go true e = refl
    go false e = absurd (omega arith)
