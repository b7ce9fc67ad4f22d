-- The signs of the first places of a block are read: a place without a pulse asks nothing. Assumes nothing.
use Prim.Native.Nat.{ℕ, zero, suc, ◌+◌, ◌-◌, ◌<◌, ◌≤◌}
use native.Mathlib.Omega.{arith}
use mathlib.Core.Path.{◌≡◌, sym, ap, subst, ◌∙◌}
use mathlib.Core.List.{List, map-id}
use lib.IntN.{ℤ, pos, nat_abs}
use lib.ListN.{length, get_or, set, length-map, get_or-map}
use lib.Seq.{set-get_or}
use Rattle.entcode.specs.declared.Dec.{Dec}
use Rattle.tree.specs.Inner.Ran.{Ran}
use Rattle.silk.specs.PulseSyntax.{each, sign}
use Rattle.silk.proofs.PulseSteps.{sign_none}
use Rattle.silk.specs.Inner.Pulses.{mags}
use Rattle.silk.proofs.PulsePlaces.{Going, going_natural, going_value, going_next, Ended, going_ended}
use Rattle.pulse_signs_read.specs.Inner.{mag, Bare}

module _ (packet row : List ℕ) (s₀ : List ℤ) (d₀ : Dec) where
  -- those of the first k places
  abbrev pub Signing : List ℤ → Dec → ℕ → Type 0
  Signing s d k = Going (λ (z : ℤ). z) (pos 0) (sign row) 16 packet d₀ (mags s₀) s d k

  size : length (mags s₀) ≡ length s₀
  size = length-map s₀ nat_abs

  module _ (s : List ℤ) (d : Dec) where
    -- the place at hand has its magnitude still
    pub signing_mag : (k : ℕ) → Signing s d k → k < length s₀ → mag s k ≡ mag s₀ k
    signing_mag k g l = going_value _ _ _ _ _ _ _ s d k g (omega (arith, size)) ∙ get_or-map nat_abs s₀ k (pos 0)

    pub signing_natural : (k : ℕ) → Signing s d k → k < length s₀ → get_or s k (pos 0) ≡ pos (mag s k)
    signing_natural k g l = going_natural _ _ _ _ _ _ _ s d k g (omega (arith, size))

    signing_none : (k : ℕ) → Signing s d k → k < length s₀ → mag s₀ k ≡ 0 → Signing s d (k + 1)
    signing_none k g l z =
        let m : mag s k ≡ 0 = signing_mag k g l ∙ z in
        let e : get_or s k (pos 0) ≡ pos 0 = signing_natural k g l ∙ ap pos m in
        subst (λ (q : List ℤ). Signing q d (k + 1)) (ap (λ (v : ℤ). set s k v) (sym e) ∙ set-get_or s k (pos 0))
        (going_next _ _ _ _ _ _ _ s d k g (omega (arith, size)) (pos 0) d 16 (omega arith) (sign_none row (mag s k) m g.through.core))

    pub signing_bare : (j p : ℕ) → j ≤ p → p ≤ length s₀ → Bare s₀ j p → Signing s d j → Signing s d p
    signing_bare j p h l b g = go (p - j) j (omega arith) b g
      where
        go : (n j : ℕ) → j + n ≡ p → Bare s₀ j p → Signing s d j → Signing s d p
        go zero j e b g = let q : j ≡ p = omega arith in subst (λ (i : ℕ). Signing s d i) q g
        go (suc n) j e b g =
            go n (j + 1) (omega arith) (λ i a c. b i (omega arith) c) (signing_none j g (omega arith) (b j (omega arith) (omega arith)))

    pub signing_ended : Signing s d 16 → length s₀ ≡ 16 → Ran packet d₀ (each (pos 0) (sign row) (mags s₀)) 256 s d
    signing_ended g n = whole (going_ended _ _ _ _ _ _ _ s d 16 g (omega (arith, size))) (size ∙ n)
      where
        whole : Ended (λ (z : ℤ). z) (pos 0) (sign row) 16 packet d₀ (mags s₀) s d → length (mags s₀) ≡ 16
            → Ran packet d₀ (each (pos 0) (sign row) (mags s₀)) 256 s d
        whole e w = let i : e.results ≡ s = sym (e.is ∙ map-id e.results) in rw (w, i) at e.ran
