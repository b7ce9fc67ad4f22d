-- The fallback leaves a vector that keeps its gaps as it is, so a run that comes to one ends with it, whatever moves are left. Assumes nothing.
use Prim.Native.Nat.{ℕ, zero, suc, ◌<◌}
use mathlib.Core.Path.{◌≡◌, refl, sym, ap, ap₂, ◌∙◌}
use mathlib.Core.Bool.{Bool, cond}
use mathlib.Core.List.{List, [], ◌∷◌}
use native.Mathlib.Omega.{arith}
use native.Mathlib.Nat.{suc_inj}
use lib.IntN.{ℤ, pos, negsuc, ◌+ℤ◌, ◌-ℤ◌}
use lib.ListN.{length}
use Rattle.ints.proofs.Order.{parts_same}
use Rattle.ints.proofs.Sums.{sum_parts, diff_parts}
use Rattle.spectrum.proofs.Extremes.{chosen_le_z, chosen_lt_z, le_le_z}
use Rattle.spectrum.proofs.Kept.{Kept, keeps_kept, run_still}
use Rattle.spectrum.proofs.MoveBounds.{good_at}
use Rattle.spectrum.proofs.Results.{kept_at}
use Rattle.spectrum.proofs.Sorting.{sorts}
use Rattle.spectrum.specs.Fallback.{sorted, sat16, climb, raised, front, lowered, fallback}
use Rattle.spectrum.specs.Gaps.{Good}
use Rattle.spectrum.specs.Stabilising.{run}
use Rattle.spectrum.specs.Statement.{RunSettled}
use Rattle.spectrum.specs.Values.{at, max_z, min_z, held}
use Rattle.spectrum.specs.Inner.{◌≼◌}

pub max_own : (a b : ℤ) → b ≼ a → max_z a b ≡ a
unfolding max_z
max_own a b h = chosen_le_z (λ (z : ℤ). z ≡ a) a b (λ k. parts_same b a (omega arith)) (λ k. refl)

pub min_own : (a b : ℤ) → a ≼ b → min_z a b ≡ a
unfolding min_z
min_own a b h = ap (λ (t : Bool). cond t a b) (le_le_z a b h)

held_below : (lo hi z c : ℤ) → lo ≼ c → z ≼ c → held lo hi z ≼ c
unfolding held
held_below lo hi z c p q =
    chosen_lt_z (λ (x : ℤ). x ≼ c) hi z (λ h. omega arith) (λ h. chosen_lt_z (λ (x : ℤ). x ≼ c) z lo (λ k. p) (λ k. q))

-- ---- the three passes

sorted_still : (g v : List ℤ) → Good g → Kept (pos 0) v g → v ≡ sorted v
sorted_still g v r k = sorts v v rises (λ z. refl)
  where
    rises : (i : ℕ) → suc i < length v → at v i ≼ at v (suc i)
    rises i h = omega (arith, kept_at (pos 0) v g k (suc i) h, sum_parts (at v i) (at g (suc i)), good_at g r (suc i))

-- a first value y that is x, and the pass on from there
climbed : (x y : ℤ) (v g : List ℤ) → y ≡ x → climb x v g ≡ v → y ∷ climb y v g ≡ x ∷ v
climbed x y v g e f = ap (λ (z : ℤ). z ∷ climb z v g) e ∙ ap (λ (w : List ℤ). x ∷ w) f

climb_still : (p : ℤ) (v g : List ℤ) → length g ≡ suc (length v) → Good g → pos 0 ≼ p → Kept p v g → climb p v g ≡ v
unfolding climb Kept Good
climb_still p [] g l r z k = refl
climb_still p (x ∷ v) [] l r z k = refl
climb_still p (x ∷ v) (a ∷ []) l r z k = absurd (omega arith)
climb_still p (x ∷ v) (a ∷ (b ∷ g)) l r z k =
    let f : (p +ℤ a) ≼ x = k.0 in
    let n : pos 0 ≼ x = omega (arith, sum_parts p a, r.0, f) in
    let y = sat16 (p +ℤ a) in
    climbed x (max_z x y) v (b ∷ g) (max_own x y (held_below (negsuc 32767) (pos 32767) (p +ℤ a) x (omega arith) f))
    (climb_still x v (b ∷ g) (suc_inj l) r.1 n k.1)

raised_still : (g v : List ℤ) → length g ≡ suc (length v) → Good g → Kept (pos 0) v g → raised g v ≡ v
unfolding raised Kept Good
raised_still g [] l r k = refl
raised_still [] (x ∷ v) l r k = refl
raised_still (a ∷ []) (x ∷ v) l r k = absurd (omega arith)
raised_still (a ∷ (b ∷ g)) (x ∷ v) l r k =
    let f : (pos 0 +ℤ a) ≼ x = k.0 in
    let n : a ≼ x = omega (arith, sum_parts (pos 0) a, f) in
    climbed x (max_z x a) v (b ∷ g) (max_own x a n) (climb_still x v (b ∷ g) (suc_inj l) r.1 (omega (arith, r.0)) k.1)

kept_front : (p g : ℤ) (v gs : List ℤ) → Kept p v (g ∷ gs) → (p +ℤ g) ≼ front v
unfolding Kept
kept_front p g [] gs k = k
kept_front p g (x ∷ v) gs k = k.0

lowered_still : (p g : ℤ) (v gs : List ℤ) → Kept p v (g ∷ gs) → lowered gs v ≡ v
unfolding lowered Kept
lowered_still p g [] gs k = refl
lowered_still p g (x ∷ v) [] k = refl
lowered_still p g (x ∷ v) (h ∷ gs) k =
    let e = lowered_still x h v gs k.1 in
    ap₂ (λ (y : ℤ) (w : List ℤ). y ∷ w)
    (ap (λ (w : List ℤ). min_z x (front w -ℤ h)) e ∙ min_own x (front v -ℤ h) (omega (arith, kept_front x h v gs k.1, sum_parts x h, diff_parts (front v) h)))
    e

fallback_still : (g v : List ℤ) → length g ≡ suc (length v) → Good g → Kept (pos 0) v g → fallback g v ≡ v
unfolding fallback
fallback_still [] v l r k = absurd (omega arith)
fallback_still (a ∷ g) v l r k =
    ap (λ (w : List ℤ). lowered g (raised (a ∷ g) w)) (sym (sorted_still (a ∷ g) v r k))
    ∙ ap (lowered g) (raised_still (a ∷ g) v l r k)
    ∙ lowered_still (pos 0) a v g k

-- ---- the run

pub run_settled : RunSettled
unfolding run
run_settled zero g v l r e =
    ap (λ (w : List ℤ). record { vector = w; moves = 0 }) (fallback_still g v l r (keeps_kept v g l e))
run_settled (suc n) g v l r e = run_still n g v e
