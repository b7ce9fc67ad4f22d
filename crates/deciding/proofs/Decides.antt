-- Tests that decide: true exactly where something holds. Tests of the parts decide the whole. Assumes nothing.
use mathlib.Core.Path.{◌≡◌, refl, sym}
use mathlib.Core.Bool.{Bool, true, false, ◌&&◌, ◌||◌}
use Rattle.deciding.proofs.Both.{and_both, both_and}
use Rattle.deciding.specs.Inner.{Decides}

-- two tests of one thing answer alike
pub decides_alike : {t u : Bool} {P : Type 0} → Decides t P → Decides u P → t ≡ u
decides_alike {t = true} d e = sym (e.seen (d.sure refl))
decides_alike {t = false} {u = true} d e = d.seen (e.sure refl)
decides_alike {t = false} {u = false} d e = refl

pub decides_as : {t : Bool} {P Q : Type 0} → (P → Q) → (Q → P) → Decides t P → Decides t Q
decides_as f g d = record { sure = λ e. f (d.sure e); seen = λ q. d.seen (g q) }

-- both, where the second test need decide only if the first thing holds
pub decides_both : {t u : Bool} {P Q : Type 0} → Decides t P → (P → Decides u Q) → Decides (t && u) (P × Q)
decides_both {t} {u} d e =
    record {
      sure = λ h. let h' = and_both t u h in let p = d.sure h'.0 in (p, (e p).sure h'.1);
      seen = λ q. both_and t u (d.seen q.0) ((e q.0).seen q.1);
    }

-- a thing that is owed only where P: t says that P does not hold
pub decides_unless : {t u : Bool} {P Q : Type 0} → (t ≡ true → P → ⊥) → (t ≡ false → P) → Decides u Q → Decides (t || u) (P → Q)
decides_unless {t = true} n y d = record { sure = λ h p. absurd (n refl p); seen = λ f. refl }
decides_unless {t = false} n y d = record { sure = λ h p. d.sure h; seen = λ f. d.seen (f (y refl)) }
