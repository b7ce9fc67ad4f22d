-- A pass over a vector in place: on one side of the place that it has come to stand the old values, on the other those of its result.
-- Assumes nothing.
use Prim.Native.Nat.{ℕ, suc, ◌+◌, ◌≤◌, ◌<◌}
use mathlib.Core.Path.{◌≡◌, refl, sym, subst, ◌∙◌}
use mathlib.Core.List.{List}
use mathlib.Core.Logic.{◌≢◌, ⊎_elim}
use native.Mathlib.Omega.{arith}
use native.Mathlib.Nat.{not-suc-le-zero, eq-or-lt_of_le}
use lib.IntN.{ℤ, pos}
use lib.ListN.{length, set, length-set}
use lib.Seq.{ext_get_or, get_or-set_same, get_or-set_other}
use Rattle.spectrum.specs.Values.{at}

-- the pass has come down to place k: below it the old values, from it on those of the result
pub record Down (f v₀ v : List ℤ) (k : ℕ) : Type 0 where
  pub long : length v ≡ length v₀
  pub old : (j : ℕ) → j < k → at v j ≡ at v₀ j
  pub new : (j : ℕ) → k ≤ j → j < length v₀ → at v j ≡ at f j

pub down_start : (f v₀ : List ℤ) → Down f v₀ v₀ (length v₀)
down_start f v₀ = record { long = refl; old = λ j h. refl; new = λ j h l. absurd (omega arith) }

pub down_step : (f v₀ v : List ℤ) (k j : ℕ) (z : ℤ) → suc j ≡ k → k ≤ length v₀ → z ≡ at f j → Down f v₀ v k → Down f v₀ (set v j z) j
down_step f v₀ v k j z e h q d =
    record {
      long = length-set v j z ∙ d.long;
      old = λ i l. get_or-set_other v j i z (pos 0) (less i l) ∙ d.old i (omega arith);
      new = λ i l m. ⊎_elim
          (λ (p : j ≡ i). subst (λ (n : ℕ). at (set v j z) n ≡ at f n) p (get_or-set_same v j z (pos 0) (omega (arith, d.long)) ∙ q))
          (λ (p : j < i). get_or-set_other v j i z (pos 0) (more i p) ∙ d.new i (omega arith) m)
          (eq-or-lt_of_le l);
    }
  where
    less : (i : ℕ) → i < j → i ≢ j
    less i l p = omega arith

    more : (i : ℕ) → j < i → i ≢ j
    more i l p = omega arith

pub down_end : (f v₀ v : List ℤ) → length f ≡ length v₀ → Down f v₀ v 0 → v ≡ f
down_end f v₀ v l d = ext_get_or (pos 0) v f (d.long ∙ sym l) (λ i h. d.new i (omega arith) (omega (arith, d.long)))

-- the pass has come up to place i
pub record Up (f v₀ v : List ℤ) (i : ℕ) : Type 0 where
  pub long : length v ≡ length v₀
  pub new : (j : ℕ) → j < i → at v j ≡ at f j
  pub old : (j : ℕ) → i ≤ j → at v j ≡ at v₀ j

pub up_start : (f v₀ : List ℤ) → Up f v₀ v₀ 0
up_start f v₀ = record { long = refl; new = λ j h. absurd (not-suc-le-zero h); old = λ j h. refl }

pub up_step : (f v₀ v : List ℤ) (i : ℕ) (z : ℤ) → i < length v₀ → z ≡ at f i → Up f v₀ v i → Up f v₀ (set v i z) (i + 1)
up_step f v₀ v i z h q u =
    record {
      long = length-set v i z ∙ u.long;
      new = λ j l. ⊎_elim
          (λ (p : j ≡ i). subst (λ (n : ℕ). at (set v i z) n ≡ at f n) (sym p) (get_or-set_same v i z (pos 0) (omega (arith, u.long)) ∙ q))
          (λ (p : j < i). get_or-set_other v i j z (pos 0) (less j p) ∙ u.new j p)
          (eq-or-lt_of_le (omega arith));
      old = λ j l. get_or-set_other v i j z (pos 0) (more j l) ∙ u.old j (omega arith);
    }
  where
    less : (j : ℕ) → j < i → j ≢ i
    less j l p = omega arith

    more : (j : ℕ) → i + 1 ≤ j → j ≢ i
    more j l p = omega arith

pub up_end : (f v₀ v : List ℤ) (i : ℕ) → length v₀ ≤ i → length f ≡ length v₀ → Up f v₀ v i → v ≡ f
up_end f v₀ v i h l u = ext_get_or (pos 0) v f (u.long ∙ sym l) (λ j k. u.new j (omega (arith, u.long)))
