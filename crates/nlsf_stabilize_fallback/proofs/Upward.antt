-- The upward pass, place by place. Assumes nothing.
use Prim.Native.Nat.{ℕ, zero, suc, ◌≤◌, ◌<◌}
use mathlib.Core.Path.{◌≡◌, refl, sym, ap, ◌∙◌}
use mathlib.Core.Bool.{Bool, true, false, cond}
use mathlib.Core.List.{List, [], ◌∷◌}
use native.Mathlib.Omega.{arith}
use native.Mathlib.Nat.{suc_inj, not-suc-le-zero, le_of_suc-le-suc}
use lib.IntN.{ℤ, pos, negsuc, ◌+ℤ◌}
use lib.Signed.{lt_z, le_z}
use lib.ListN.{length}
use Rattle.ints.proofs.Order.{parts_same}
use Rattle.ints.specs.Parts.{up, down}
use Rattle.ints.proofs.Sums.{sum_parts}
use Rattle.spectrum.proofs.Extremes.{chosen_lt_z}
use Rattle.spectrum.proofs.MoveBounds.{good_at, cut}
use Rattle.spectrum.specs.Fallback.{sat16, climb, raised}
use Rattle.spectrum.specs.Gaps.{Ruled}
use Rattle.spectrum.specs.Values.{at, max_z, held}
use Rattle.spectrum.specs.Inner.{◌≼◌}
use Rattle.nlsf_stabilize_fallback.specs.Inner.{NoneBelow}

pub max_yes : (a b : ℤ) → le_z a b ≡ true → max_z a b ≡ b
unfolding max_z
max_yes a b e = ap (λ (t : Bool). cond t b a) e

pub max_no : (a b : ℤ) → le_z a b ≡ false → max_z a b ≡ a
unfolding max_z
max_no a b e = ap (λ (t : Bool). cond t b a) e

-- a number of 16 bits is not changed
pub sat_same : (z : ℤ) → z ≼ pos 32767 → negsuc 32767 ≼ z → sat16 z ≡ z
unfolding held
sat_same z p q =
    chosen_lt_z (λ (x : ℤ). x ≡ z) (pos 32767) z (λ h. parts_same (pos 32767) z (omega arith))
    (λ h. chosen_lt_z (λ (x : ℤ). x ≡ z) z (negsuc 32767) (λ k. parts_same (negsuc 32767) z (omega arith)) (λ k. refl))

pub sat_top : (z : ℤ) → lt_z (pos 32767) z ≡ true → sat16 z ≡ pos 32767
unfolding held
sat_top z e = ap (λ (t : Bool). cond t (pos 32767) (cond (lt_z z (negsuc 32767)) (negsuc 32767) z)) e

pub zero_plus : (z : ℤ) → pos 0 +ℤ z ≡ z
zero_plus z = parts_same (pos 0 +ℤ z) z (omega (arith, sum_parts (pos 0) z))

raised_first : (g v : List ℤ) → 0 < length v → length g ≡ suc (length v) → at (raised g v) 0 ≡ max_z (at v 0) (at g 0)
unfolding raised
raised_first g [] h l = absurd (not-suc-le-zero h)
raised_first [] (x ∷ v) h l = absurd (omega arith)
raised_first (a ∷ g) (x ∷ v) h l = refl

climb_at : (p : ℤ) (v g : List ℤ) (k : ℕ) → length v ≤ length g → k < length v
    → at (climb p v g) k ≡ max_z (at v k) (sat16 (at (p ∷ climb p v g) k +ℤ at g k))
unfolding climb
climb_at p [] g k l h = absurd (not-suc-le-zero h)
climb_at p (x ∷ v) [] k l h = absurd (not-suc-le-zero l)
climb_at p (x ∷ v) (a ∷ g) zero l h = refl
climb_at p (x ∷ v) (a ∷ g) (suc k) l h = climb_at (max_z x (sat16 (p +ℤ a))) v g k (le_of_suc-le-suc l) (le_of_suc-le-suc h)

raised_next : (g v : List ℤ) (k : ℕ) → suc k < length v → length g ≡ suc (length v)
    → at (raised g v) (suc k) ≡ max_z (at v (suc k)) (sat16 (at (raised g v) k +ℤ at g (suc k)))
unfolding raised
raised_next g [] k h l = absurd (not-suc-le-zero h)
raised_next [] (x ∷ v) k h l = absurd (omega arith)
raised_next (a ∷ g) (x ∷ v) k h l =
    climb_at (max_z x a) v g k (let e : length g ≡ suc (length v) = suc_inj l in omega arith) (le_of_suc-le-suc h)

-- what stands before place i of the result: 0, or the value before
pub raised_at : (g v : List ℤ) (i : ℕ) → i < length v → length g ≡ suc (length v) → down (at g 0) ≡ 0 → up (at g 0) ≤ 32767
    → at (raised g v) i ≡ max_z (at v i) (sat16 (at (pos 0 ∷ raised g v) i +ℤ at g i))
raised_at g v zero h l d u =
    raised_first g v h l
    ∙ ap (max_z (at v 0)) (sym (ap (λ (z : ℤ). sat16 z) (zero_plus (at g 0)) ∙ sat_same (at g 0) (omega arith) (omega arith)))
raised_at g v (suc k) h l d u = raised_next g v k h l

pub none_below : (g : List ℤ) (n : ℕ) → Ruled g → length g ≡ suc n → 0 < n → NoneBelow g
none_below g n r l h =
    let c = cut g 0 n l h r.good in
    record { none = λ k. (good_at g r.good k).0; first = omega (arith, c.all, c.some, r.most) }
