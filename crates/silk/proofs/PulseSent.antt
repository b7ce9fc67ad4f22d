-- Laws of the call that writes pulses: what its accepted numbers are, its two outcomes, what an accepted call hands
-- back. Assumes nothing.
use Prim.Native.Nat.{ℕ, ◌+◌, ◌*◌, ◌≤◌}
use mathlib.Core.Path.{◌≡◌, refl, sym, ap, subst, ◌∙◌}
use mathlib.Core.Bool.{Bool, true, false, ◌&&◌, cond}
use mathlib.Core.List.{List, map}
use native.Mathlib.Omega.{arith}
use borrow.Author.Tests.{ne_eqb, leb-true}
use lib.Dec.{eqb, leb}
use lib.IntN.{ℤ}
use lib.ListN.{length}
use Rattle.deciding.proofs.Both.{and_both}
use Rattle.deciding.proofs.Choice.{chosen}
use Rattle.lists.specs.Every.{every}
use Rattle.lists.specs.Inner.{All}
use Rattle.refusals.specs.First.{first_of}
use Rattle.refusals.proofs.FirstLaws.{first_none}
use Rattle.sheet.specs.Directory.{rate_row}
use Rattle.entcode.specs.Rules.{say_rule}
use Rattle.entcode.specs.Flat.{Out, out}
use Rattle.entcode.specs.Sound.{gate_w}
use Rattle.entcode.specs.Writing.{Sent, takes, refuses}
use Rattle.entcode.proofs.WritingLaws.{Open, gate_open, answered_ok, answered_no, answered_none}
use Rattle.entcode.proofs.SoundLaws.{Joint, SoundNext}
use Rattle.tree.proofs.Says.{says_all_lem}
use Rattle.tree.specs.Telling.{written_all, all_said}
use Rattle.tree.proofs.SoundTelling.{total_always, sound_always}
use Rattle.silk.specs.PulseSyntax.{row, excitation}
use Rattle.silk.specs.FrameCalls.{pulse_numbers_ok, pulse_rule, blocks_of}
use Rattle.silk.specs.Inner.Pulses.{Sixteen, AllSuit, least_shift}
use Rattle.silk.proofs.PulseBlocks.{rows_counted, rows_sixteen}
use Rattle.silk.proofs.PulseLaws.{Fine, excitation_within}
use Rattle.silk.proofs.PulseCallLaws.{PulseOpen, pulse_open, blocks_most}
use Rattle.silk.specs.PulseWriting.{smallest, excited, pulses_say, shifts_of, write_rule, write_numbers, pulse_blocks, encode_rule, encode_pulses}
use Rattle.silk.proofs.PulseWritten.{shifts_suit}
use Rattle.silk.proofs.PulseSayable.{frame_says, shifts_least, rule_least}

-- ---- the numbers

-- the rule of a reading call, and a rate level of at most 8
pub numbers_write : (n khz subframes signal offset rate : ℕ)
    → write_numbers n khz subframes signal offset rate ≡ cond (leb rate 8) (pulse_rule n khz subframes signal offset) 4
unfolding write_numbers pulse_rule
numbers_write n khz subframes signal offset rate = go (pulse_numbers_ok khz subframes signal offset) (leb rate 8)
  where
    go : (a b : Bool) → let m : ℕ = cond (eqb n (16 * blocks_of khz subframes)) 0 6 in ◌≡◌ {A = ℕ} (cond (a && b) m 4) (cond b (cond a m 4) 4)
    go true true = refl
    go true false = refl
    go false true = refl
    go false false = refl

-- a call whose own numbers are not refused
pub record WriteOpen (n khz subframes signal offset rate : ℕ) : Type 0 where
  pub frame : PulseOpen n khz subframes signal offset
  pub rate8 : rate ≤ 8

pub write_open : (n khz subframes signal offset rate : ℕ) → write_numbers n khz subframes signal offset rate ≡ 0 → WriteOpen n khz subframes signal offset rate
write_open n khz subframes signal offset rate e =
    let p = parts (leb rate 8) (pulse_rule n khz subframes signal offset) (sym (numbers_write n khz subframes signal offset rate) ∙ e) in
    record { frame = pulse_open n khz subframes signal offset p.1; rate8 = leb-true rate 8 p.0 }
  where
    parts : (a : Bool) (m : ℕ) → cond a m 4 ≡ 0 → (a ≡ true) × (m ≡ 0)
    parts true m e = (refl, e)
    parts false m e = absurd (omega arith)

-- ---- the outcomes

first_assoc : (a b c : ℕ) → first_of a (first_of b c) ≡ first_of (first_of a b) c
unfolding first_of
first_assoc a b c =
    chosen (λ (n : ℕ). cond (eqb a 0) (cond (eqb b 0) c b) a ≡ cond (eqb n 0) c n) (eqb a 0) (λ t. rw t) (λ t. rw t)

first_given : (a b : ℕ) → (a ≡ 0 → ⊥) → first_of a b ≡ a
unfolding first_of
first_given a b h = rw (ne_eqb a 0 h)

first_zero : (a b : ℕ) → a ≡ 0 → first_of a b ≡ b
unfolding first_of
first_zero a b e = rw e

module _ (o : Out) (p : List ℤ) (khz subframes signal offset rate n : ℕ)
    (e : n ≡ first_of (gate_w o.buf o.state) (write_numbers (length p) khz subframes signal offset rate)) where
  abbrev ps : List (List ℤ)
  ps = pulse_blocks p khz subframes

  rule_is : encode_rule o p khz subframes signal offset rate ≡ first_of n (write_rule signal offset rate ps)
  rule_is =
      first_assoc (gate_w o.buf o.state) (write_numbers (length p) khz subframes signal offset rate) (write_rule signal offset rate ps)
      ∙ ap (λ (m : ℕ). first_of m (write_rule signal offset rate ps)) (sym e)

  -- refused by state or numbers
  pub pulses_early : (n ≡ 0 → ⊥) → refuses n o ≡ encode_pulses o p khz subframes signal offset rate
  unfolding encode_pulses
  pulses_early h =
      let r = rule_is ∙ first_given n (write_rule signal offset rate ps) h in
      ap (λ (m : ℕ). refuses m o) (sym r) ∙ answered_no (encode_rule o p khz subframes signal offset rate) o 0 _ (λ q. h (sym r ∙ q))

  module _ (z : n ≡ 0) where
    -- what the call goes on with
    pub record Entered : Type 0 where
      pub gate : Open o
      pub own : WriteOpen (length p) khz subframes signal offset rate

    pub entered : Entered
    entered =
        let f = first_none (gate_w o.buf o.state) (write_numbers (length p) khz subframes signal offset rate) (sym e ∙ z) in
        record { gate = gate_open o f.0; own = write_open (length p) khz subframes signal offset rate f.1 }

    sixteens : All Sixteen ps
    sixteens = rows_sixteen (blocks_of khz subframes) p (omega (arith, entered.own.frame.length16))

    rule_eight : encode_rule o p khz subframes signal offset rate ≡ cond (every (λ q. leb (least_shift q) 10) ps) 0 8
    rule_eight =
        let w = entered.own in
        rule_is ∙ first_zero n (write_rule signal offset rate ps) z
        ∙ rule_least rate signal offset w.rate8 w.frame.numbers.signal2 w.frame.numbers.offset1 ps sixteens

    -- a block without a shift
    pub pulses_unfit : every (λ q. leb (least_shift q) 10) ps ≡ false → refuses 8 o ≡ encode_pulses o p khz subframes signal offset rate
    unfolding encode_pulses
    pulses_unfit t =
        let r : encode_rule o p khz subframes signal offset rate ≡ 8 = rule_eight ∙ rw t in
        ap (λ (m : ℕ). refuses m o) (sym r) ∙ answered_no (encode_rule o p khz subframes signal offset rate) o 0 _ (λ q. omega (arith, r, q))

    -- written
    pub pulses_sent : (q : Out) → every (λ q. leb (least_shift q) 10) ps ≡ true
        → q ≡ written_all o (pulses_say signal offset (blocks_of khz subframes) rate (map least_shift ps) ps)
        → takes 0 q ≡ encode_pulses o p khz subframes signal offset rate
    unfolding encode_pulses
    pulses_sent q t w =
        let r : encode_rule o p khz subframes signal offset rate ≡ 0 = rule_eight ∙ rw t in
        let f = entered.own.frame.numbers in
        let l = shifts_least rate signal offset entered.own.rate8 f.signal2 f.offset1 ps sixteens in
        ap (takes 0) (w ∙ ap (λ (js : List ℕ). written_all o (pulses_say signal offset (blocks_of khz subframes) rate js ps)) (sym l))
        ∙ answered_ok (encode_rule o p khz subframes signal offset rate) o 0 _ r

-- ---- what an accepted call hands back

-- a writer that is sound by the joint rule, if the call had one, and a total that grew by at most 100,000
pub record PulsesSent (o q : Out) : Type 0 where
  pub sound : Joint o → SoundNext q
  pub least : o.state.total ≤ q.state.total
  pub most : q.state.total ≤ o.state.total + 100000

-- a rule that passes has found a shift for each block
rule_shifts : (signal offset rate : ℕ) (ps : List (List ℤ)) → All Sixteen ps → write_rule signal offset rate ps ≡ 0
    → AllSuit (shifts_of rate signal offset ps) ps
unfolding write_rule
rule_shifts signal offset rate ps w e =
    shifts_suit rate signal offset ps w (and_both (eqb (say_rule (row (rate_row signal)) rate) 0) (every (λ p. leb (smallest rate signal offset p) 10) ps) (passed _ e)).1
  where
    passed : (t : Bool) → ◌≡◌ {A = ℕ} (cond t 0 8) 0 → t ≡ true
    passed true e = refl
    passed false e = absurd (omega arith)

pub sent_accepted : (o : Out) (p : List ℤ) (khz subframes signal offset rate : ℕ) → (encode_pulses o p khz subframes signal offset rate).answer.refusal ≡ 0
    → let x = encode_pulses o p khz subframes signal offset rate in PulsesSent o (out x.buf x.answer.state)
unfolding encode_pulses
sent_accepted o p khz subframes signal offset rate e =
    let n = blocks_of khz subframes in
    let ps = pulse_blocks p khz subframes in
    let js = shifts_of rate signal offset ps in
    let z = answered_none (encode_rule o p khz subframes signal offset rate) o 0 _ e in
    let f = first_none (gate_w o.buf o.state) (first_of (write_numbers (length p) khz subframes signal offset rate) (write_rule signal offset rate ps)) z in
    let g = first_none (write_numbers (length p) khz subframes signal offset rate) (write_rule signal offset rate ps) f.1 in
    let c = gate_open o f.0 in
    let w = write_open (length p) khz subframes signal offset rate g.0 in
    let m = w.frame.numbers in
    let a : AllSuit js ps = rule_shifts signal offset rate ps (rows_sixteen n p (omega (arith, w.frame.length16))) g.1 in
    let d : all_said (pulses_say signal offset n rate js ps) ≡ true =
    subst (λ (k : ℕ). all_said (pulses_say signal offset k rate js ps) ≡ true) (rows_counted n p)
    (says_all_lem (frame_says rate signal offset w.rate8 m.signal2 m.offset1 js ps a)) in
    let t = excitation_within signal offset n m.signal2 m.offset1 (blocks_most khz subframes m.khz16 m.subframes4) in
    let y = excited rate js ps in
    let b = total_always Fine 64656 o y (excitation signal offset n) t d c in
    subst (λ (s : Sent). PulsesSent o (out s.buf s.answer.state)) (answered_ok (encode_rule o p khz subframes signal offset rate) o 0 _ z)
    (record { sound = λ j. sound_always Fine 64656 o y (excitation signal offset n) t d c j (omega arith); least = b.0; most = omega (arith, b.1) })
