-- The numbers that reading answers fit their lines. Assumes nothing.
use Prim.Native.Nat.{ℕ, ◌≤◌}
use mathlib.Core.Path.{◌≡◌, ap}
use mathlib.Core.Bool.{Bool, true, false}
use mathlib.Core.List.{List}
use native.Mathlib.Omega.{arith}
use lib.Dec.{eqb, leb}
use lib.ListN.{length}
use Rattle.deciding.proofs.Choice.{chosen}
use Rattle.refusals.specs.First.{first_of}
use Rattle.framing.specs.declared.Packet.{Packet}
use Rattle.framing.specs.Toc.{config_of, code_of}
use Rattle.framing.specs.Rules.{keeps}
use Rattle.framing.specs.Reading.{unless, speech, read_rule, accepted, packet_read}
use Rattle.framing.specs.Statement.{Accepted}
use Rattle.framing.proofs.Accepted.{readable, rule_zero, answer_is}
use Rattle.framing.proofs.Theorems.{parts_placed}
use Rattle.packet_text_frames.specs.Inner.{Small}

pub small : (s : List ℕ) → Accepted s → Small (packet_read s)
unfolding accepted
small s e =
    let z = rule_zero s e in
    let r = readable s z in
    let p = parts_placed s e in
    let c : (packet_read s).config ≡ config_of s = ap (λ (a : Packet). a.config) (answer_is s z) in
    let n : (packet_read s).arrangement ≡ code_of s = ap (λ (a : Packet). a.arrangement) (answer_is s z) in
    record {
      config = omega arith;
      arrangement = omega arith;
      count = p.few;
      inside = λ k h. omega (arith, p.inside k h);
    }

unless_most : (t : Bool) (m n : ℕ) → m ≤ n → unless t m ≤ n
unless_most true m n h = omega arith
unless_most false m n h = h

first_most_lem : (a b n : ℕ) → a ≤ n → b ≤ n → first_of a b ≤ n
unfolding first_of
first_most_lem a b n h l = chosen (λ (m : ℕ). m ≤ n) (eqb a 0) (λ e. l) (λ e. h)

rule_most : (s : List ℕ) → read_rule s ≤ 11
unfolding read_rule
rule_most s =
    first_most_lem _ _ 11 (unless_most (leb (length s) 16384) 1 11 (omega arith))
    (first_most_lem _ _ 11 (unless_most (keeps s) 10 11 (omega arith)) (unless_most (speech s) 11 11 (omega arith)))

-- no refusal is above 11
pub refusal_most : (s : List ℕ) → (packet_read s).refusal ≤ 11
unfolding packet_read accepted
refusal_most s = chosen (λ (a : Packet). a.refusal ≤ 11) (eqb (read_rule s) 0) (λ e. omega arith) (λ e. rule_most s)
