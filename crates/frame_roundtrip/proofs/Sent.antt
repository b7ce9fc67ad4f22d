-- What accepted calls wrote: each its symbols, which may all be written; so a list of calls is a list of symbols. Assumes nothing.
use Prim.Native.Nat.{ℕ, ◌*◌}
use mathlib.Core.Path.{◌≡◌, refl, sym, ap, subst, ◌∙◌}
use mathlib.Core.Bool.{Bool, true, false, ◌&&◌, cond}
use mathlib.Core.List.{List, [], ◌∷◌, ◌++◌}
use native.Mathlib.Omega.{arith}
use borrow.Author.Tests.{eqb-true}
use lib.Dec.{eqb, leb}
use lib.IntN.{ℤ}
use lib.ListN.{length}
use Rattle.deciding.proofs.Choice.{chosen}
use Rattle.lists.specs.Every.{every}
use Rattle.refusals.specs.First.{first_of}
use Rattle.refusals.proofs.FirstLaws.{first_none}
use Rattle.sheet.specs.Directory.{rate_row}
use Rattle.entcode.specs.Models.{Sym}
use Rattle.entcode.specs.Sound.{gate_w}
use Rattle.entcode.specs.Rules.{say_rule}
use Rattle.entcode.specs.Writer.{Writer, write_sym, write_all}
use Rattle.entcode.specs.Flat.{Out, flat}
use Rattle.entcode.proofs.FlatLaws.{as_flat}
use Rattle.entcode.specs.Writing.{written, enc_sym}
use Rattle.entcode.proofs.WritingLaws.{answered_ok, answered_none}
use Rattle.roundtrip.specs.Statement.{AllAllowed, after}
use Rattle.roundtrip.proofs.Accepted.{took}
use Rattle.tree.specs.Asks.{symbols}
use Rattle.tree.proofs.Says.{says_all_lem}
use Rattle.tree.specs.Telling.{written_all}
use Rattle.silk.specs.declared.Indices.{Indices}
use Rattle.silk.specs.declared.Setting.{Setting}
use Rattle.silk.specs.IndexSyntax.{indices}
use Rattle.silk.specs.FrameCalls.{setting_ok, pulse_numbers_ok, blocks_of}
use Rattle.silk.proofs.IndexCalls.{four_none}
use Rattle.silk.specs.IndexWriting.{sayable, tell_rule, IndicesSent, indices_told, encode_indices}
use Rattle.silk.proofs.IndexWritingLaws.{indices_told_lem, told_sayable, all_said_lem}
use Rattle.silk.specs.PulseSyntax.{row}
use Rattle.silk.proofs.PulseBlocks.{rows_counted, rows_sixteen}
use Rattle.silk.specs.PulseWriting.{smallest, pulses_say, shifts_of, write_rule, write_numbers, pulse_blocks, encode_rule, encode_pulses}
use Rattle.silk.specs.Inner.Pulses.{AllSuit}
use Rattle.silk.proofs.PulseWritten.{shifts_suit}
use Rattle.silk.proofs.PulseSayable.{frame_says}
use Rattle.silk.proofs.PulseSent.{WriteOpen, write_open}
use Rattle.frame_roundtrip.specs.Statement.{Step, symbol, side_indices, pulses, after_indices, behind, Accepts, StepsSent}
use Rattle.frame_roundtrip.proofs.Allowed.{said_allowed, allowed_both}

-- the symbols of a call, and of a list of calls
abbrev pub says : Step → List Sym
says (symbol s) = s ∷ []
says (side_indices x s) = symbols x (indices s x)
says (pulses p khz subframes signal offset rate) =
    pulses_say signal offset (blocks_of khz subframes) rate (shifts_of rate signal offset (pulse_blocks p khz subframes)) (pulse_blocks p khz subframes)

abbrev pub says_all : List Step → List Sym
says_all [] = []
says_all (t ∷ ts) = says t ++ says_all ts

written_flat : (l : List Sym) (w : Writer) → written_all (flat w) l ≡ flat (write_all w l)
unfolding written_all written
written_flat [] w = refl
written_flat (q ∷ l) w = ap (λ (v : Writer). written_all (flat (write_sym v q)) l) (as_flat w) ∙ written_flat l (write_sym w q)

-- ---- side indices

-- what an accepted call had
pub record IndicesTook (o : Out) (x : Indices) (s : Setting) : Type 0 where
  pub gate : gate_w o.buf o.state ≡ 0
  pub setting : setting_ok s ≡ true
  pub said : sayable s x ≡ true
  pub is : encode_indices o x s ≡ indices_told s x (written_all o (symbols x (indices s x)))

tell_zero : (o : Out) (x : Indices) (s : Setting) → (encode_indices o x s).answer.refusal ≡ 0 → tell_rule o s x ≡ 0
unfolding encode_indices
tell_zero o x s =
    chosen (λ (a : IndicesSent). a.answer.refusal ≡ 0 → tell_rule o s x ≡ 0) (eqb (tell_rule o s x) 0) (λ t z. eqb-true _ _ t) (λ t z. z)

pub indices_took : (o : Out) (x : Indices) (s : Setting) → (encode_indices o x s).answer.refusal ≡ 0 → IndicesTook o x s
indices_took o x s z =
    let e = tell_zero o x s z in
    let f = first_none (gate_w o.buf o.state) (first_of (cond (setting_ok s) 0 4) (cond (sayable s x) 0 8)) e in
    record {
      gate = f.0;
      setting = four_none (setting_ok s) (first_none (cond (setting_ok s) 0 4) (cond (sayable s x) 0 8) f.1).0;
      said = (told_sayable o x s e).1;
      is = sym (indices_told_lem o x s e);
    }

pub indices_sent : (w : Writer) (x : Indices) (s : Setting) → (encode_indices (flat w) x s).answer.refusal ≡ 0
    → encode_indices (flat w) x s ≡ indices_told s x (flat (write_all w (symbols x (indices s x))))
indices_sent w x s z = (indices_took (flat w) x s z).is ∙ ap (indices_told s x) (written_flat (symbols x (indices s x)) w)

-- ---- pulses

pub record PulsesTook (o : Out) (p : List ℤ) (khz subframes signal offset rate : ℕ) : Type 0 where
  pub gate : gate_w o.buf o.state ≡ 0
  pub numbers : pulse_numbers_ok khz subframes signal offset ≡ true
  pub size : length p ≡ 16 * blocks_of khz subframes
  pub own : WriteOpen (length p) khz subframes signal offset rate
  pub shifts : every (λ q. leb (smallest rate signal offset q) 10) (pulse_blocks p khz subframes) ≡ true

numbers_parts : (a b c : Bool) → ◌≡◌ {A = ℕ} (cond (a && b) (cond c 0 6) 4) 0 → (a ≡ true) × (c ≡ true)
numbers_parts true true true e = (refl, refl)
numbers_parts true true false e = absurd (omega arith)
numbers_parts true false c e = absurd (omega arith)
numbers_parts false b c e = absurd (omega arith)

eight_parts : (a b : Bool) → ◌≡◌ {A = ℕ} (cond (a && b) 0 8) 0 → (a ≡ true) × (b ≡ true)
eight_parts true true e = (refl, refl)
eight_parts true false e = absurd (omega arith)
eight_parts false b e = absurd (omega arith)

module _ (p : List ℤ) (khz subframes signal offset rate : ℕ) where
  abbrev ps : List (List ℤ)
  ps = pulse_blocks p khz subframes

  pub pulses_took : (o : Out) → (encode_pulses o p khz subframes signal offset rate).answer.refusal ≡ 0 → PulsesTook o p khz subframes signal offset rate
  unfolding encode_pulses write_numbers write_rule
  pulses_took o z =
      let f = first_none (gate_w o.buf o.state) _ (answered_none (encode_rule o p khz subframes signal offset rate) o 0 _ z) in
      let g = first_none (write_numbers (length p) khz subframes signal offset rate) (write_rule signal offset rate ps) f.1 in
      let n = numbers_parts (pulse_numbers_ok khz subframes signal offset) (leb rate 8) (eqb (length p) (16 * blocks_of khz subframes)) g.0 in
      let r = eight_parts (eqb (say_rule (row (rate_row signal)) rate) 0) (every (λ q. leb (smallest rate signal offset q) 10) ps) g.1 in
      record {
        gate = f.0;
        numbers = n.0;
        size = eqb-true _ _ n.1;
        own = write_open (length p) khz subframes signal offset rate g.0;
        shifts = r.1;
      }

  pub pulses_suit : (o : Out) → PulsesTook o p khz subframes signal offset rate → AllSuit (shifts_of rate signal offset ps) ps
  pulses_suit o t = shifts_suit rate signal offset ps (rows_sixteen (blocks_of khz subframes) p (omega (arith, t.size))) t.shifts

  pulses_say_lem : (o : Out) → PulsesTook o p khz subframes signal offset rate → AllAllowed (says (pulses p khz subframes signal offset rate))
  pulses_say_lem o t =
      subst (λ (n : ℕ). AllAllowed (pulses_say signal offset n rate (shifts_of rate signal offset ps) ps)) (rows_counted (blocks_of khz subframes) p)
      (said_allowed _
      (says_all_lem
      (frame_says rate signal offset t.own.rate8 t.own.frame.numbers.signal2 t.own.frame.numbers.offset1 (shifts_of rate signal offset ps) ps
      (pulses_suit o t))))

  pulses_wrote : (o : Out) → (encode_pulses o p khz subframes signal offset rate).answer.refusal ≡ 0
      → after (encode_pulses o p khz subframes signal offset rate) ≡ written_all o (says (pulses p khz subframes signal offset rate))
  unfolding encode_pulses
  pulses_wrote o z =
      ap after (sym (answered_ok _ o 0 _ (answered_none (encode_rule o p khz subframes signal offset rate) o 0 _ z)))

-- ---- any call

-- an accepted call passed the gate
pub step_gate : (o : Out) (t : Step) → Accepts o t → gate_w o.buf o.state ≡ 0
unfolding enc_sym
step_gate o (symbol s) z = (first_none (gate_w o.buf o.state) _ (answered_none _ o 0 (written o s) z)).0
step_gate o (side_indices x s) z = (indices_took o x s z.1).gate
step_gate o (pulses p khz subframes signal offset rate) z = (pulses_took p khz subframes signal offset rate o z).gate

pub step_allowed : (w : Writer) (t : Step) → Accepts (flat w) t → AllAllowed (says t)
step_allowed w (symbol s) z = ((took w s z).allowed, tt)
step_allowed w (side_indices x s) z = said_allowed _ (all_said_lem s x (indices_took (flat w) x s z.1).said)
step_allowed w (pulses p khz subframes signal offset rate) z =
    pulses_say_lem p khz subframes signal offset rate (flat w) (pulses_took p khz subframes signal offset rate (flat w) z)

pub step_wrote : (w : Writer) (t : Step) → Accepts (flat w) t → behind (flat w) t ≡ flat (write_all w (says t))
step_wrote w (symbol s) z = (took w s z).is
step_wrote w (side_indices x s) z =
    ap after_indices (indices_sent w x s z.1)
step_wrote w (pulses p khz subframes signal offset rate) z =
    pulses_wrote p khz subframes signal offset rate (flat w) z ∙ written_flat (says (pulses p khz subframes signal offset rate)) w

-- ---- a list of calls

pub record StepsWent (w : Writer) (ts : List Step) (q : Out) : Type 0 where
  pub end : q ≡ flat (write_all w (says_all ts))
  pub allowed : AllAllowed (says_all ts)

write_append : (w : Writer) (k l : List Sym) → write_all w (k ++ l) ≡ write_all (write_all w k) l
write_append w [] l = refl
write_append w (q ∷ k) l = write_append (write_sym w q) k l

pub next_sent : (w : Writer) (t : Step) (ts : List Step) (q : Out) → StepsSent (flat w) (t ∷ ts) q → StepsSent (flat (write_all w (says t))) ts q
next_sent w t ts q h = subst (λ (o : Out). StepsSent o ts q) (step_wrote w t h.0) h.1

pub steps_went : (ts : List Step) (w : Writer) (q : Out) → StepsSent (flat w) ts q → StepsWent w ts q
steps_went [] w q h = record { end = sym h; allowed = tt }
steps_went (t ∷ ts) w q h =
    let r = steps_went ts (write_all w (says t)) q (next_sent w t ts q h) in
    record {
      end = r.end ∙ ap flat (sym (write_append w (says t) (says_all ts)));
      allowed = allowed_both (says t) (says_all ts) (step_allowed w t h.0) r.allowed;
    }
