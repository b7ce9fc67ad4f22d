-- What the loop over a table's entries and the test of a symbol lean on. Assumes nothing.
use Prim.Native.Nat.{ℕ, zero, suc, ◌-◌, ◌^◌, ◌≤◌, ◌<◌}
use mathlib.Core.Path.{◌≡◌, refl, ap}
use mathlib.Core.Bool.{Bool, false, ◌&&◌}
use mathlib.Core.List.{List, [], ◌∷◌}
use native.Mathlib.Omega.{arith}
use native.Mathlib.Nat.{not-suc-le-zero}
use lib.Dec.{leb, eqb}
use lib.ListN.{length, get_or, drop}
use Rattle.icdf.specs.Rule.{before}
use Rattle.icdf.specs.Test.{falls_ok, icdf_ok}

-- the test of what is left behind an entry m: nothing left means that m was the last
abbrev pub left : ℕ → List ℕ → Bool
left m [] = eqb m 0
left m (x ∷ t) = leb x m && left x t

pub left_first : (m : ℕ) (t : List ℕ) → 1 ≤ length t → leb (get_or t 0 0) m && left (get_or t 0 0) (drop 1 t) ≡ left m t
left_first m [] h = absurd (not-suc-le-zero h)
left_first m (x ∷ t) h = refl

pub left_some : (m : ℕ) (t : List ℕ) → 1 ≤ length t → left m t ≡ falls_ok m t
left_some m [] h = absurd (not-suc-le-zero h)
left_some m (x ∷ []) h = refl
left_some m (x ∷ y ∷ t) h = ap (λ (b : Bool). leb x m && b) (left_some x (y ∷ t) (omega arith))

pub none_ok : (scale : ℕ) (t : List ℕ) → length t < 1 → false ≡ icdf_ok scale t
unfolding icdf_ok
none_ok scale [] h = refl
none_ok scale (x ∷ t) h = absurd (omega arith)

-- the entry before symbol k, by the test whether k is the first
pub before_first : (scale k : ℕ) (t : List ℕ) → k ≡ 0 → before scale t k ≡ 2 ^ scale
before_first scale k t z = ap (before scale t) z

pub before_later : (scale k : ℕ) (t : List ℕ) → (k ≡ 0 → ⊥) → before scale t k ≡ get_or t (k - 1) 0
before_later scale zero t z = absurd (z refl)
before_later scale (suc j) t z = let e : j ≡ suc j - 1 = omega arith in ap (λ (i : ℕ). get_or t i 0) e
