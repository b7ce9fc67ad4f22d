-- The edges of values that rise: where each stands, how far the next is, and the weight between. Assumes nothing.
use Prim.Native.Nat.{ℕ, zero, suc, ◌+◌, ◌-◌, ◌*◌, ◌^◌, ◌≤◌, ◌<◌}
use mathlib.Core.Path.{◌≡◌, refl, ap, ◌∙◌}
use mathlib.Core.Bool.{true, ◌&&◌}
use mathlib.Core.List.{List, [], ◌∷◌, ◌++◌}
use native.Mathlib.Nat.{le_of_suc-le-suc, not-suc-le-zero, div-le_self, le-div_iff_mul-le}
use native.Mathlib.Omega.{arith}
use borrow.Author.Tests.{ltb-true, leb-true}
use lib.Dec.{ltb, leb}
use lib.ListN.{length, get_or, get_or-append}
use lib.Seq.{get_or-append_seam}
use Rattle.bitlen.specs.Length.{bit_length}
use Rattle.deciding.proofs.Both.{and_both}
use Rattle.sheet.specs.Weights.{root_at, weight, weights_from, weights_of, rises_by, rises}
use Rattle.nlsf_weights.specs.Inner.{edges, share_at}

-- ---- edges

pub edge_value : (v : List ℕ) (k : ℕ) → k < length v → get_or (edges v) (suc k) 0 ≡ get_or v k 0
edge_value v k h = get_or-append v (256 ∷ []) 0 k h

pub edge_last : (v : List ℕ) → get_or (edges v) (suc (length v)) 0 ≡ 256
edge_last v = get_or-append_seam v 256 [] 0

pub edge_before : (v : List ℕ) → 1 ≤ length v → get_or (edges v) (length v) 0 ≡ get_or v (length v - 1) 0
edge_before v h =
    let e : length v ≡ suc (length v - 1) = omega arith in
    ap (λ (k : ℕ). get_or (edges v) k 0) e ∙ edge_value v (length v - 1) (omega arith)

-- ---- steps

pub record Step (m a x : ℕ) : Type 0 where
  pub up : a < x
  pub near : x ≤ a + m

step_of : (m a x : ℕ) → ltb a x && leb x (a + m) ≡ true → Step m a x
step_of m a x e =
    let p = and_both (ltb a x) (leb x (a + m)) e in
    record { up = ltb-true a x p.0; near = leb-true x (a + m) p.1 }

steps : (m a : ℕ) (v : List ℕ) → rises_by m a v ≡ true → (k : ℕ) → k ≤ length v
    → Step m (get_or (a ∷ (v ++ (256 ∷ []))) k 0) (get_or (v ++ (256 ∷ [])) k 0)
unfolding rises_by
steps m a [] e zero h = step_of m a 256 e
steps m a [] e (suc k) h = absurd (not-suc-le-zero h)
steps m a (x ∷ t) e zero h = step_of m a x (and_both (ltb a x && leb x (a + m)) (rises_by m x t) e).0
steps m a (x ∷ t) e (suc k) h = steps m x t (and_both (ltb a x && leb x (a + m)) (rises_by m x t) e).1 k (le_of_suc-le-suc h)

pub step_at : (v : List ℕ) → rises v ≡ true → (k : ℕ) → k ≤ length v
    → Step 47 (get_or (edges v) k 0) (get_or (edges v) (suc k) 0)
step_at v e = steps 47 0 v e

-- ---- shares

pub share_some : (v : List ℕ) → rises v ≡ true → (k : ℕ) → k ≤ length v → (1 ≤ share_at v k) × (share_at v k ≤ 1024)
share_some v e k h =
    let s = step_at v e k h in
    let d = get_or (edges v) (suc k) 0 - get_or (edges v) k 0 in
    ((le-div_iff_mul-le {k = d} {x = 1} {y = 1024} (omega (arith, s.up))).1 (omega (arith, s.near)), div-le_self 1024 d)

-- ---- weights

abbrev between : List ℕ → ℕ → ℕ
between e k = weight (get_or e k 0) (get_or e (suc k) 0) (get_or e (suc (suc k)) 0)

weights_between : (a : ℕ) (v : List ℕ) (k : ℕ) → k < length v → get_or (weights_from a v) k 0 ≡ between (a ∷ (v ++ (256 ∷ []))) k
unfolding weights_from
weights_between a [] k h = absurd (not-suc-le-zero h)
weights_between a (x ∷ []) zero h = refl
weights_between a (x ∷ []) (suc k) h = absurd (not-suc-le-zero (le_of_suc-le-suc h))
weights_between a (x ∷ y ∷ t) zero h = refl
weights_between a (x ∷ y ∷ t) (suc k) h = weights_between x (y ∷ t) k (le_of_suc-le-suc h)

-- the weight of place k, by the two shares around its value
pub weight_at : (v : List ℕ) (k : ℕ) → k < length v
    → get_or (weights_of v) k 0 ≡ root_at ((share_at v k + share_at v (suc k)) * 2 ^ 16) (bit_length ((share_at v k + share_at v (suc k)) * 2 ^ 16))
unfolding weights_of weight
weight_at v k h = weights_between 0 v k h

length_from : (a : ℕ) (v : List ℕ) → length (weights_from a v) ≡ length v
unfolding weights_from
length_from a [] = refl
length_from a (x ∷ []) = refl
length_from a (x ∷ y ∷ t) = ap suc (length_from x (y ∷ t))

pub weights_long : (v : List ℕ) → length (weights_of v) ≡ length v
unfolding weights_of
weights_long v = length_from 0 v
