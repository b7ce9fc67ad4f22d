-- Laws of the call that writes side indices: refusal 8 is a field outside its range, what an accepted call had and hands back, and which records that
-- a reader gave it accepts. Assumes nothing.
use Prim.Native.Nat.{ℕ, ◌+◌, ◌-◌, ◌*◌, ◌≤◌}
use mathlib.Core.Path.{◌≡◌, refl, sym, ap, subst, ◌∙◌}
use mathlib.Core.Bool.{Bool, false, cond}
use mathlib.Core.List.{List}
use native.Mathlib.Omega.{arith}
use borrow.Author.Tests.{eqb-true, eq-eqb, ne_eqb}
use lib.Dec.{eqb}
use lib.IntN.{pos}
use Rattle.deciding.proofs.Choice.{chosen}
use Rattle.deciding.specs.Inner.{Decides}
use Rattle.deciding.proofs.Decides.{decides_as, decides_alike}
use Rattle.refusals.specs.First.{first_of}
use Rattle.refusals.proofs.FirstLaws.{first_none, none_first, first_first}
use Rattle.entcode.specs.declared.Dec.{Dec}
use Rattle.entcode.specs.Flat.{Out, out}
use Rattle.entcode.specs.Sound.{gate_w}
use Rattle.entcode.specs.Reader.{Bytes}
use Rattle.entcode.proofs.WritingLaws.{Open, gate_open}
use Rattle.entcode.proofs.SoundLaws.{Joint, SoundNext}
use Rattle.tree.specs.Asks.{symbols}
use Rattle.tree.specs.Telling.{written_all}
use Rattle.tree.proofs.SoundTelling.{total_told, sound_told}
use Rattle.silk.specs.declared.Indices.{Indices}
use Rattle.silk.specs.declared.Setting.{Setting}
use Rattle.silk.specs.IndexSyntax.{relative_lag, indices}
use Rattle.silk.specs.Inner.Indices.{Upto, Writes}
use Rattle.silk.specs.Record.{Shape}
use Rattle.silk.proofs.IndexRanges.{indices_end}
use Rattle.silk.specs.FrameCalls.{setting_ok, decode_indices}
use Rattle.silk.proofs.IndexCalls.{Chosen, setting_chosen, chosen_setting, four_none, indices_accepted}
use Rattle.silk.proofs.IndexFields.{range_writes}
use Rattle.silk.specs.IndexWriting.{sayable, tell_rule, IndicesSent, indices_told, encode_indices}
use Rattle.silk.proofs.IndexWritingLaws.{all_said_lem, indices_told_lem, told_sayable}
use Rattle.encode_indices.proofs.Fields.{fields_sayable}
use Rattle.encode_indices.proofs.Acceptance.{sayable_writes}

-- refusal 8 is exactly a field outside its range
pub fields_decide : (s : Setting) (x : Indices) → Chosen s → Shape x → Decides (sayable s x) (Writes s x)
fields_decide s x c h = record { sure = sayable_writes s x c h; seen = fields_sayable s x c h }

-- ---- the order of refusals: n is the first of gate and numbers, and where it is 0 the fields decide

module _ (o : Out) (x : Indices) (s : Setting) (n : ℕ) (e : n ≡ first_of (gate_w o.buf o.state) (cond (setting_ok s) 0 4)) where
  rule_is : first_of n (cond (sayable s x) 0 8) ≡ tell_rule o s x
  rule_is =
      ap (λ (m : ℕ). first_of m (cond (sayable s x) 0 8)) e
      ∙ sym (first_first (gate_w o.buf o.state) (cond (setting_ok s) 0 4) (cond (sayable s x) 0 8))

  pub rule_chosen : n ≡ 0 → Chosen s
  rule_chosen z = setting_chosen s (four_none (setting_ok s) (first_none (gate_w o.buf o.state) _ (sym e ∙ z)).1)

  pub rule_early : (n ≡ 0 → ⊥) → n ≡ tell_rule o s x
  unfolding first_of
  rule_early h = subst (λ (t : Bool). cond t (cond (sayable s x) 0 8) n ≡ tell_rule o s x) (ne_eqb n 0 h) rule_is

  rule_late : n ≡ 0 → cond (sayable s x) 0 8 ≡ tell_rule o s x
  unfolding first_of
  rule_late z = subst (λ (t : Bool). cond t (cond (sayable s x) 0 8) n ≡ tell_rule o s x) (eq-eqb n 0 z) rule_is

  pub rule_fields : n ≡ 0 → Shape x → (t : Bool) → Decides t (Writes s x) → cond t 0 8 ≡ tell_rule o s x
  rule_fields z h t d = ap (λ (u : Bool). cond u 0 8) (decides_alike d (fields_decide s x (rule_chosen z) h)) ∙ rule_late z

-- ---- an accepted call

module _ (o : Out) (x : Indices) (s : Setting) where
  -- the refusal answered is the first of the table
  pub refusal_is : (encode_indices o x s).answer.refusal ≡ tell_rule o s x
  unfolding encode_indices
  refusal_is =
      chosen (λ (q : IndicesSent). q.answer.refusal ≡ tell_rule o s x) (eqb (tell_rule o s x) 0) (λ t. sym (eqb-true _ _ t)) (λ t. refl)

  -- no refusal: the state passed the gate, the numbers are those of a frame, and the fields lie in their ranges
  pub record Takes : Type 0 where
    pub passed : Open o
    pub numbers : Chosen s
    pub fields : Writes s x

  pub rule_takes : Shape x → tell_rule o s x ≡ 0 → Takes
  rule_takes h e =
      let t = told_sayable o x s e in
      record {
        passed = gate_open o (first_none (gate_w o.buf o.state) _ e).0;
        numbers = t.0;
        fields = sayable_writes s x t.0 h t.1;
      }

  pub record IndicesTaken (q : IndicesSent) : Type 0 where
    pub was : Takes
    pub least : o.state.total ≤ q.answer.state.total
    pub most : q.answer.state.total ≤ o.state.total + 816
    pub sound : Joint o → SoundNext (out q.buf q.answer.state)

  pub indices_taken : Shape x → (encode_indices o x s).answer.refusal ≡ 0 → IndicesTaken (encode_indices o x s)
  indices_taken h z =
      let e : tell_rule o s x ≡ 0 = sym refusal_is ∙ z in
      let t = rule_takes h e in
      let c = t.numbers in
      let w = indices_end s x c.rate c.subframes h c.active in
      let a = all_said_lem s x ((fields_decide s x c h).seen t.fields) in
      let m = total_told o x w a t.passed in
      let q : IndicesTaken (indices_told s x (written_all o (symbols x (indices s x)))) = record {
        was = t;
        least = m.0;
        most = omega (arith, m.1);
        sound = λ j. sound_told o x w a t.passed j (omega arith);
      } in
      subst IndicesTaken (indices_told_lem o x s e) q

-- ---- a record that was read from a packet, whatever it held and whatever fields were handed in

module _ (b : List ℕ) (d : Dec) (x : Indices) (s : Setting) (y : Bytes b) (h : Shape x) (z : (decode_indices b d x s).refusal ≡ 0) where
  abbrev read : Indices
  read = (decode_indices b d x s).indices

  -- what a voiced frame may lack: its lag against the frame before is any number of 16 bits
  abbrev pub LagWrites : Type 0
  LagWrites = read.signal ≡ pos 2 → Upto (16 * s.khz - 1) read.lag

  pub read_decides : Decides (sayable s read) LagWrites
  read_decides =
      let a = indices_accepted b d x s y h z in
      decides_as (λ w v. (w.pitch v).lag) (range_writes s read a.read.range) (fields_decide s read a.was.numbers a.read.shape)

  module _ (o : Out) (g : gate_w o.buf o.state ≡ 0) where
    answers : (encode_indices o read s).answer.refusal ≡ cond (sayable s read) 0 8
    answers =
        let c = chosen_setting s (indices_accepted b d x s y h z).was.numbers in
        refusal_is o read s ∙ sym (rule_late o read s 0 (sym (none_first _ _ g (ap (λ (t : Bool). cond t 0 4) c))) refl)

    pub read_taken : LagWrites → (encode_indices o read s).answer.refusal ≡ 0
    read_taken l = answers ∙ ap (λ (t : Bool). cond t 0 8) (read_decides.seen l)

    -- and so always where the lag is not against the frame before
    pub read_absolute : relative_lag s ≡ false → (encode_indices o read s).answer.refusal ≡ 0
    read_absolute e = read_taken (λ v. ((indices_accepted b d x s y h z).read.range.voiced v).absolute e)

    pub read_refused : (LagWrites → ⊥) → (encode_indices o read s).answer.refusal ≡ 8
    read_refused n = answers ∙ chosen (λ (k : ℕ). k ≡ 8) (sayable s read) (λ e. absurd (n (read_decides.sure e))) (λ e. refl)
