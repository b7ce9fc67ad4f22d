-- Public calls on a writer: what an accepted one says of its symbol and its state, and that a firm writer passes the gate. Part 17 of the argument.
-- Assumes nothing.
use Prim.Native.Nat.{ℕ, zero, suc, ◌^◌, ◌≤◌}
use mathlib.Core.Path.{◌≡◌, refl, sym, ap, ◌∙◌}
use mathlib.Core.Bool.{Bool, true, cond}
use mathlib.Core.List.{List}
use native.Mathlib.Omega.{arith}
use borrow.Author.Tests.{le-leb, lt-ltb}
use lib.Dec.{leb, ltb}
use lib.IntN.{pos}
use lib.ListN.{length}
use Rattle.deciding.proofs.Both.{range_in, both_and}
use Rattle.icdf.proofs.RuleLaws.{symbol_accepts, icdf_accepts}
use Rattle.refusals.specs.First.{first_of}
use Rattle.refusals.proofs.FirstLaws.{first_none, none_first}
use Rattle.entcode.specs.Models.{Model, bit, raw, num, tab, Sym, Readable, Allowed}
use Rattle.entcode.specs.Sound.{gate_w}
use Rattle.entcode.specs.Rules.{exponent_ok, count_ok, number_ok, ask_rule, say_rule}
use Rattle.entcode.specs.Writer.{Writer, open_w, write_sym}
use Rattle.entcode.proofs.WriterLaws.{Firm}
use Rattle.entcode.specs.Finish.{finish_w}
use Rattle.entcode.specs.Flat.{err_of, error_of, Out, flat}
use Rattle.entcode.proofs.FlatLaws.{as_flat}
use Rattle.entcode.proofs.WritingLaws.{sound_flat, say_open, answered_ok, answered_none}
use Rattle.entcode.specs.Writing.{Sent, takes, written, enc_sym, finished, enc_done, enc_open}
use Rattle.roundtrip.specs.Statement.{after}

pub error_none : (e : ℕ) → error_of e ≡ pos 0 → e ≡ 0
error_none zero h = refl
error_none (suc n) h = absurd (let y : suc n ≡ 0 = ap err_of h in omega arith)

-- ---- the rules

-- a symbol that may be written is not refused
say_pass : (m : Model) (v : ℕ) → Allowed m v → say_rule m v ≡ 0
say_pass (bit lp) v w = rw (range_in 1 15 lp w.readable.0 w.readable.1, le-leb v 1 w.fitting)
say_pass (raw n) v w = rw (range_in 1 25 n w.readable.0 w.readable.1, lt-ltb v (2 ^ n) w.fitting)
say_pass (num ft) v w = rw (le-leb 2 ft w.readable.0, lt-ltb ft (2 ^ 32) w.readable.1, lt-ltb v ft w.fitting)
say_pass (tab scale t) v w = symbol_accepts scale t v w.readable w.fitting

ask_zero : (t : Bool) → t ≡ true → ◌≡◌ {A = ℕ} (cond t 0 4) 0
ask_zero t e = rw e

-- a model that may be read with is not refused
pub ask_pass : (m : Model) → Readable m → ask_rule m ≡ 0
ask_pass (bit lp) o = ask_zero (exponent_ok lp) (range_in 1 15 lp o.0 o.1)
ask_pass (raw n) o = ask_zero (count_ok n) (range_in 1 25 n o.0 o.1)
ask_pass (num ft) o = ask_zero (number_ok ft) (both_and (leb 2 ft) (ltb ft (2 ^ 32)) (le-leb 2 ft o.0) (lt-ltb ft (2 ^ 32) o.1))
ask_pass (tab scale t) o = icdf_accepts scale t o

-- ---- the gate

pub firm_passes : (w : Writer) → Firm 0 w → length w.tail.room.buf ≤ 1275 → w.total ≤ 1000000 → gate_w (flat w).buf (flat w).state ≡ 0
unfolding gate_w
firm_passes w f short low =
    rw (le-leb _ _ short, sound_flat 0 w f (omega (arith, f.tidy)) (omega (arith, f.tidy)) (omega arith), le-leb _ _ low)

-- ---- opening, an accepted write, and finishing, from the flat form of a writer

pub opens : (b : List ℕ) → length b ≤ 1275 → after (enc_open b) ≡ flat (open_w b)
unfolding enc_open
opens b h = rw (le-leb (length b) 1275 h)

-- what an accepted write says: its state passes the gate, its symbol, and the state after it
pub record Took (w : Writer) (s : Sym) : Type 0 where
  pub gate : gate_w (flat w).buf (flat w).state ≡ 0
  pub allowed : Allowed s.model s.value
  pub is : after (enc_sym (flat w) s) ≡ flat (write_sym w s)

pub took : (w : Writer) (s : Sym) → (enc_sym (flat w) s).answer.refusal ≡ 0 → Took w s
unfolding enc_sym written
took w s z =
    let o = flat w in
    let n = answered_none (first_of (gate_w o.buf o.state) (say_rule s.model s.value)) o 0 (written o s) z in
    let f = first_none (gate_w o.buf o.state) (say_rule s.model s.value) n in
    record {
      gate = f.0;
      allowed = say_open s.model s.value f.1;
      is = ap after (sym (answered_ok _ o 0 (written o s) n)) ∙ ap (λ (v : Writer). flat (write_sym v s)) (as_flat w);
    }

-- an allowed symbol is accepted where the gate is open
pub write_passes : (w : Writer) (s : Sym) → gate_w (flat w).buf (flat w).state ≡ 0 → Allowed s.model s.value
    → (enc_sym (flat w) s).answer.refusal ≡ 0
unfolding enc_sym
write_passes w s g ok =
    ap (λ (x : Sent). x.answer.refusal)
    (sym (answered_ok _ (flat w) 0 (written (flat w) s) (none_first _ _ g (say_pass s.model s.value ok))))

pub done_accepted : (w : Writer) → (enc_done (flat w)).answer.refusal ≡ 0 → enc_done (flat w) ≡ takes 0 (flat (finish_w w))
unfolding enc_done finished
done_accepted w z =
    let o = flat w in
    sym (answered_ok _ o 0 (finished o) (answered_none (gate_w o.buf o.state) o 0 (finished o) z))
    ∙ ap (λ (v : Writer). takes 0 (flat (finish_w v))) (as_flat w)

-- an accepted finish passed the gate
pub done_gate : (o : Out) → (enc_done o).answer.refusal ≡ 0 → gate_w o.buf o.state ≡ 0
unfolding enc_done
done_gate o z = answered_none _ o 0 (finished o) z

pub done_passes : (w : Writer) → gate_w (flat w).buf (flat w).state ≡ 0 → (enc_done (flat w)).answer.refusal ≡ 0
unfolding enc_done
done_passes w g = ap (λ (x : Sent). x.answer.refusal) (sym (answered_ok _ (flat w) 0 (finished (flat w)) g))
