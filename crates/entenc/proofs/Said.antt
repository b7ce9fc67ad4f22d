-- A call on a writer, by what gate and rule answered: it writes, or it is refused. Assumes nothing.
use Prim.Native.Nat.{ℕ, ◌^◌, ◌<◌, ◌≤◌}
use mathlib.Core.Path.{◌≡◌, refl, sym, ap, ◌∙◌}
use native.Mathlib.Omega.{arith}
use Rattle.std.proofs.Common.{Result, Ok, Err}
use Rattle.std.specs.Result.{result_and}
use Rattle.refusals.specs.declared.Refusal.{Refusal}
use Rattle.refusals.specs.Inner.{number_of, refusal_of}
use Rattle.refusals.proofs.RefusalLaws.{number_refuses, and_refuses}
use Rattle.icdf.specs.Rule.{Icdf, Writable}
use Rattle.entcode.specs.Flat.{Out}
use Rattle.entcode.specs.Models.{Model, Sym, bit, raw, num, tab, Allowed}
use Rattle.entcode.specs.Rules.{say_rule}
use Rattle.entcode.specs.Sound.{gate_w}
use Rattle.entcode.specs.Inner.Writing.{Core}
use Rattle.entcode.specs.Writing.{takes, refuses, written, enc_sym}
use Rattle.entcode.proofs.WritingLaws.{call_runs, call_takes, call_refuses}

-- what the functions that write ask of their numbers
abbrev pub Asks : Model → ℕ → Type 0
Asks (bit lp) v = (1 ≤ lp) × (lp ≤ 15) × (v ≤ 1)
Asks (raw n) v = (1 ≤ n) × (n ≤ 25) × (v < 2 ^ n)
Asks (num ft) v = (2 ≤ ft) × (v < ft)
Asks (tab scale t) v = Icdf scale t × Writable scale t v

asks : (m : Model) (v : ℕ) → Allowed m v → Asks m v
asks (bit lp) v a = (a.readable.0, a.readable.1, a.fitting)
asks (raw n) v a = (a.readable.0, a.readable.1, a.fitting)
asks (num ft) v a = (a.readable.0, a.fitting)
asks (tab scale t) v a = (a.readable, a.fitting)

pub record Said (o : Out) (s : Sym) : Type 0 where
  pub core : Core o
  pub low : o.state.total ≤ 2 ^ 30
  pub asks : Asks s.model s.value
  pub writes : {q : Out} → q ≡ written o s → takes 0 q ≡ enc_sym o s

-- x is the first refusal of the gate's answer g and the rule's answer r
pub said : {A : Type 0} {x : Result A Refusal} {a : A} (o : Out) (s : Sym) (g r : Result A Refusal) → x ≡ result_and g r
    → refusal_of g ≡ gate_w o.buf o.state → refusal_of r ≡ say_rule s.model s.value → x ≡ Ok a → Said o s
said o s g r e p q i =
    let f = sym (ap refusal_of i) ∙ and_refuses g r e p q in
    let a = call_runs o s 0 f refl in
    record {
      core = a.entry.core;
      low = omega (arith, a.entry.low);
      asks = asks s.model s.value a.allowed;
      writes = λ {q} k. call_takes o s 0 f q refl k;
    }

pub refused : {A : Type 0} {x : Result A Refusal} {refusal : Refusal} (o : Out) (s : Sym) (g r : Result A Refusal) → x ≡ result_and g r
    → refusal_of g ≡ gate_w o.buf o.state → refusal_of r ≡ say_rule s.model s.value → x ≡ Err refusal
    → refuses (number_of refusal) o ≡ enc_sym o s
refused {A} {x} {refusal} o s g r e p q i =
    call_refuses o s (number_of refusal) (sym (ap refusal_of i) ∙ and_refuses g r e p q) (number_refuses refusal)
