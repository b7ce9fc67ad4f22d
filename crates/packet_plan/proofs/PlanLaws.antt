-- Refusals of a plan. Assumes nothing.
use Prim.Native.Nat.{ℕ, ◌+◌, ◌≤◌}
use mathlib.Core.Path.{◌≡◌, sym, ap, ◌∙◌}
use mathlib.Core.Bool.{cond}
use mathlib.Core.List.{List}
use native.Mathlib.Omega.{arith}
use lib.Dec.{eqb, ltb}
use Rattle.std.specs.Prelude.{Option, Some, IfSome, Err}
use Rattle.refusals.specs.declared.Refusal.{Refusal}
use Rattle.refusals.specs.declared.Refusal.TheVariants.{Value}
use Rattle.refusals.specs.Inner.{number_of}
use Rattle.framing.specs.Lengths.{total}
use Rattle.framing.specs.Writing.{alike, shortest_code, bare, shortest, length_for, write_rule}
use Rattle.framing.proofs.Kept.{by_bool}
use Rattle.framing.proofs.Shortest.{bare_alike, bare_varied, shortest_range}
use Rattle.framing.proofs.WriteRules.{stops_8}
use Rattle.packet_shortest.specs.Inner.{Width, told}
use Rattle.packet_plan.specs.Inner.{Planned}

pub stopped : (len c n : ℕ) (ns : List ℕ) (l : ℕ) (r : Refusal) → write_rule len c n ns l ≡ number_of r → Planned len c n ns l (Err r)
stopped len c n ns l r e = record { rule = sym e; runs = tt }

-- ---- refusal 8

pub total_bare : (ns : List ℕ) → total ns ≤ bare ns
total_bare ns = by_bool (alike ns) (λ e. omega (arith, bare_alike ns e)) (λ e. omega (arith, bare_varied ns e))

pub too_long : (len c n : ℕ) (ns : List ℕ) (l : ℕ) → len ≤ 16384 → n ≡ total ns → 16384 ≤ bare ns → Planned len c n ns l (Err Value)
too_long len c n ns l h e b =
    stopped len c n ns l Value (stops_8 len c n ns l h e (λ i j. omega (arith, (shortest_range ns).0)))

pub no_room : (len c n : ℕ) (ns : List ℕ) (l : ℕ) → len ≤ 16384 → n ≡ total ns
    → (shortest ns ≤ length_for ns l → length_for ns l ≤ len → ⊥) → Planned len c n ns l (Err Value)
no_room len c n ns l h e f = stopped len c n ns l Value (stops_8 len c n ns l h e f)

pub shortest_is : (ns : List ℕ) (c b x : ℕ) → c ≡ shortest_code ns → b ≡ bare ns → x ≡ cond (ltb c 3) 1 2 + b → x ≡ shortest ns
unfolding shortest
shortest_is ns c b x p q e = e ∙ ap (λ (k : ℕ). cond (ltb k 3) 1 2 + b) p ∙ ap (λ (k : ℕ). cond (ltb (shortest_code ns) 3) 1 2 + k) q

-- ---- the numbers worked out on the way are the definition's

pub record Known (ns : List ℕ) (l w n x m : ℕ) : Type 0 where
  pub plain : w + n ≡ bare ns
  pub least : x ≡ shortest ns
  pub wanted : m ≡ length_for ns l

pub known : (ns : List ℕ) (l w n c x m : ℕ) {o : Option ℕ} → n ≡ total ns → o ≡ Some w → Width ns (told o) → IfSome o (λ v. v ≤ 40000)
    → c ≡ shortest_code ns → x ≡ cond (ltb c 3) 1 2 + (w + n) → m ≡ cond (eqb l 0) x l → Known ns l w n x m
known ns l w n c x m e q d h p y r =
    let b : w + n ≡ bare ns = ap (λ (k : ℕ). w + k) e ∙ (rw q at d).exact (rw q at h) in
    let s : x ≡ shortest ns = shortest_is ns c (w + n) x p b y in
    record { plain = b; least = s; wanted = r ∙ ap (λ (k : ℕ). cond (eqb l 0) k l) s }
