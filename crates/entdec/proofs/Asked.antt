-- A call on a reader, by what gate and rule answered: it reads, or it is refused. Assumes nothing.
use Prim.Native.Nat.{ℕ, ◌^◌, ◌≤◌}
use mathlib.Core.Path.{◌≡◌, refl, sym, ap, ◌∙◌}
use mathlib.Core.List.{List}
use native.Mathlib.Omega.{arith}
use Rattle.std.proofs.Common.{Result, Ok, Err}
use Rattle.std.specs.Result.{result_and}
use Rattle.refusals.specs.declared.Refusal.{Refusal}
use Rattle.refusals.specs.Inner.{number_of, refusal_of}
use Rattle.refusals.proofs.RefusalLaws.{number_refuses, and_refuses}
use Rattle.entcode.specs.declared.Dec.{Dec}
use Rattle.entcode.specs.Models.{Model, Readable}
use Rattle.entcode.specs.Reader.{read_val, read_next}
use Rattle.entcode.specs.Inner.Reading.{Core}
use Rattle.entcode.specs.Reading.{gives, refuses, dec_sym}
use Rattle.entcode.proofs.ReadingLaws.{call_open, call_runs, call_refused}
use Rattle.entcode.specs.Rules.{ask_rule}
use Rattle.entcode.specs.Sound.{gate_r}

pub record Asked (b : List ℕ) (d : Dec) (m : Model) : Type 0 where
  pub core : Core b d
  pub low : d.total ≤ 2 ^ 30
  pub readable : Readable m
  pub reads : gives (read_val b m d) (read_next b m d) ≡ dec_sym b d m

-- x is the first refusal of the gate's answer g and the rule's answer r
pub asked : {A : Type 0} {x : Result A Refusal} {a : A} (b : List ℕ) (d : Dec) (m : Model) (g r : Result A Refusal)
    → x ≡ result_and g r → refusal_of g ≡ gate_r b d → refusal_of r ≡ ask_rule m → x ≡ Ok a → Asked b d m
asked b d m g r e p q i =
    let f = sym (ap refusal_of i) ∙ and_refuses g r e p q in
    let o = call_open b d m 0 f refl in
    record { core = o.0.sound.core; low = omega (arith, o.0.low); readable = o.1; reads = call_runs b d m 0 f refl }

pub refused : {A : Type 0} {x : Result A Refusal} {refusal : Refusal} (b : List ℕ) (d : Dec) (m : Model) (g r : Result A Refusal)
    → x ≡ result_and g r → refusal_of g ≡ gate_r b d → refusal_of r ≡ ask_rule m → x ≡ Err refusal
    → refuses (number_of refusal) d ≡ dec_sym b d m
refused {A} {x} {refusal} b d m g r e p q i =
    call_refused b d m (number_of refusal) (sym (ap refusal_of i) ∙ and_refuses g r e p q) (number_refuses refusal)
