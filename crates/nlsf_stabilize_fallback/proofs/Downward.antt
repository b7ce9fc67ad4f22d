-- The downward pass, place by place. Assumes nothing.
use Prim.Native.Nat.{ℕ, zero, suc, ◌≤◌, ◌<◌}
use mathlib.Core.Path.{◌≡◌, refl, ap, ◌∙◌}
use mathlib.Core.Bool.{Bool, true, false, cond}
use mathlib.Core.List.{List, [], ◌∷◌}
use native.Mathlib.Omega.{arith}
use native.Mathlib.Nat.{suc_inj, not-suc-le-zero, le_of_suc-le-suc}
use lib.IntN.{ℤ, ◌-ℤ◌}
use lib.Signed.{le_z}
use lib.ListN.{length, drop}
use Rattle.ints.proofs.Order.{parts_alone}
use Rattle.ints.specs.Parts.{up, down}
use Rattle.spectrum.proofs.Extremes.{min_right}
use Rattle.spectrum.proofs.Results.{within_at}
use Rattle.spectrum.specs.Fallback.{front, lowered}
use Rattle.spectrum.specs.Values.{at, top, min_z, Within}

pub min_yes : (a b : ℤ) → le_z a b ≡ true → min_z a b ≡ a
unfolding min_z
min_yes a b e = ap (λ (t : Bool). cond t a b) e

pub min_no : (a b : ℤ) → le_z a b ≡ false → min_z a b ≡ b
unfolding min_z
min_no a b e = ap (λ (t : Bool). cond t a b) e

-- what stands behind place k of a list: the next value, or 32,768
pub behind : List ℤ → ℕ → ℤ
behind l k = front (drop k l)

pub lowered_at : (gs v : List ℤ) (k : ℕ) → length gs ≡ length v → k < length v
    → at (lowered gs v) k ≡ min_z (at v k) (behind (lowered gs v) (suc k) -ℤ at gs k)
unfolding lowered behind
lowered_at gs [] k l h = absurd (not-suc-le-zero h)
lowered_at [] (x ∷ v) k l h = absurd (omega arith)
lowered_at (g ∷ gs) (x ∷ v) zero l h = refl
lowered_at (g ∷ gs) (x ∷ v) (suc k) l h = lowered_at gs v k (suc_inj l) (le_of_suc-le-suc h)

-- a place is what stands behind the one before it
pub behind_at : (l : List ℤ) (k : ℕ) → k < length l → behind l k ≡ at l k
unfolding behind
behind_at [] k h = absurd (not-suc-le-zero h)
behind_at (x ∷ l) zero h = refl
behind_at (x ∷ l) (suc k) h = behind_at l k (le_of_suc-le-suc h)

pub behind_end : (l : List ℤ) → behind l (length l) ≡ top
unfolding behind
behind_end [] = refl
behind_end (x ∷ l) = behind_end l

pub behind_most : (l : List ℤ) (k : ℕ) → Within 0 32767 l → (down (behind l k) ≡ 0) × (up (behind l k) ≤ 32768)
unfolding behind Within
behind_most [] zero w = (refl, omega arith)
behind_most [] (suc k) w = (refl, omega arith)
behind_most (x ∷ l) zero w = (omega (arith, w.0.0), omega (arith, w.0.1))
behind_most (x ∷ l) (suc k) w = behind_most l k w.1

pub at_drop : (g : List ℤ) (k : ℕ) → at (drop 1 g) k ≡ at g (suc k)
at_drop [] k = refl
at_drop (x ∷ g) k = refl

length_tail : (g : List ℤ) (n : ℕ) → length g ≡ suc n → length (drop 1 g) ≡ n
length_tail [] n l = absurd (omega arith)
length_tail (x ∷ g) n l = suc_inj l

-- one turn: what is stored at j = k - 1, and that its parts fit
pub down_turn : (g v : List ℤ) (k j : ℕ) → suc j ≡ k → k ≤ length v → length g ≡ suc (length v) → Within 0 32767 (lowered (drop 1 g) v)
    → (at (lowered (drop 1 g) v) j ≡ min_z (at v j) (behind (lowered (drop 1 g) v) k -ℤ at g k)) × (down (behind (lowered (drop 1 g) v) k -ℤ at g k) ≡ 0)
down_turn g v k j e h l w =
    let f = lowered (drop 1 g) v in
    let a : at f j ≡ min_z (at v j) (behind f (suc j) -ℤ at (drop 1 g) j) =
    lowered_at (drop 1 g) v j (length_tail g (length v) l) (omega arith) in
    let b : at f j ≡ min_z (at v j) (behind f k -ℤ at g k) =
    a ∙ ap (λ (z : ℤ). min_z (at v j) (behind f (suc j) -ℤ z)) (at_drop g j) ∙ ap (λ (n : ℕ). min_z (at v j) (behind f n -ℤ at g n)) e in
    let z = behind f k -ℤ at g k in
    (b, omega (arith, min_right (at v j) z, ap up b, ap down b, within_at 0 32767 f w j, parts_alone z))
