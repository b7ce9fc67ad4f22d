-- The lister refuses a whole input with 1, then 4, and nothing else: a fresh reader is sound, and pulses behind accepted side indices are never
-- refused. Assumes nothing.
use Prim.Native.Nat.{ℕ, ◌+◌, ◌*◌, ◌≤◌, ◌<◌}
use mathlib.Core.Path.{◌≡◌, refl, sym, ap, ◌∙◌}
use mathlib.Core.Bool.{Bool, true, false, ◌&&◌, cond}
use mathlib.Core.List.{List}
use native.Mathlib.Omega.{arith}
use borrow.Author.Tests.{le-leb, lt-leb, eq-eqb, ne_eqb, eqb-true}
use lib.Dec.{eqb, leb}
use lib.IntN.{ℤ, pos, nat_abs}
use lib.ListN.{length, replicate, length-replicate}
use Rattle.deciding.proofs.Choice.{chosen, by_lt}
use Rattle.refusals.specs.First.{first_of}
use Rattle.refusals.proofs.FirstLaws.{none_first}
use Rattle.entcode.specs.declared.Dec.{Dec}
use Rattle.entcode.specs.declared.Decoded.{Decoded}
use Rattle.entcode.specs.Sound.{gate_r}
use Rattle.entcode.specs.Reader.{after, opened, Bytes}
use Rattle.entcode.specs.Reading.{dec_open}
use Rattle.entcode.proofs.ReadingLaws.{Sound, Open, gate_pass}
use Rattle.listing.specs.Lines.{refused_text}
use Rattle.sections.specs.Values.{byte_at, pair_at}
use Rattle.silk.specs.declared.Indices.{Indices}
use Rattle.silk.specs.declared.IndicesRead.{IndicesRead}
use Rattle.silk.specs.declared.Setting.{Setting}
use Rattle.silk.specs.Inner.Indices.{Rate, eight, twelve, sixteen, Subframes, two, four}
use Rattle.silk.proofs.IndexCalls.{indices_accepted}
use Rattle.silk.specs.FrameCalls.{khz_ok, subframes_ok, setting_ok, blocks_of, indices_rule, decode_indices, pulse_numbers_ok, pulse_rule, pulses_rule, decode_pulses}
use Rattle.lister_text.specs.ListerText.{blank, indices_of, lister_text}

-- ---- opening

opened_sound : (b : List ℕ) → Bytes b → length b ≤ 1275 → Sound b (opened b)
unfolding opened
opened_sound b y h =
    record {
      core = record {
        short = h;
        above = omega arith;
        most = omega arith;
        inside = omega arith;
        kept = refl;
        place = omega arith;
        back = omega arith;
        held = omega (arith, y (after b (after b (after b 0))));
        flag = omega arith;
        used = omega arith;
        slim = omega arith;
      };
      least = omega arith;
      most = omega arith;
    }

fresh_open : (b : List ℕ) → Bytes b → length b ≤ 1275 → Open b (opened b)
unfolding opened
fresh_open b y h = record { sound = opened_sound b y h; low = omega arith }

short_gate : (b : List ℕ) → Bytes b → length b ≤ 1275 → gate_r b (dec_open b).state ≡ cond (leb (length b) 1275) 0 1
unfolding dec_open
short_gate b y h = rw (le-leb (length b) 1275 h) (gate_pass b (opened b) (fresh_open b y h))

long_gate : (b : List ℕ) → 1275 < length b → gate_r b (dec_open b).state ≡ cond (leb (length b) 1275) 0 1
unfolding gate_r
long_gate b h = rw (lt-leb (length b) 1275 h)

-- the gate of a fresh reader refuses a long packet alone
gate_fresh : (b : List ℕ) → Bytes b → gate_r b (dec_open b).state ≡ cond (leb (length b) 1275) 0 1
gate_fresh b y = by_lt 1275 (length b) (long_gate b) (short_gate b y)

-- ---- side indices: 1 for a packet above 1,275 bytes, then 4 for a number

rule_is : (b : List ℕ) (d : Dec) (x : Indices) (s : Setting) → (decode_indices b d x s).refusal ≡ indices_rule b d s
unfolding decode_indices
rule_is b d x s =
    chosen (λ (a : IndicesRead). a.refusal ≡ indices_rule b d s) (eqb (indices_rule b d s) 0) (λ e. sym (eqb-true _ _ e)) (λ e. refl)

pub refusal_is : (b : List ℕ) (s : Setting) → Bytes b → (indices_of b s).refusal ≡ first_of (cond (leb (length b) 1275) 0 1) (cond (setting_ok s) 0 4)
refusal_is b s y =
    rule_is b (dec_open b).state blank s ∙ ap (λ (n : ℕ). first_of n (cond (setting_ok s) 0 4)) (gate_fresh b y)

-- ---- pulses

rate_ok : {khz : ℕ} → Rate khz → khz_ok khz ≡ true
rate_ok eight = refl
rate_ok twelve = refl
rate_ok sixteen = refl

subframes_ok_lem : {n : ℕ} → Subframes n → subframes_ok n ≡ true
subframes_ok_lem two = refl
subframes_ok_lem four = refl

numbers_kept : {khz subframes : ℕ} (signal offset : ℕ) → Rate khz → Subframes subframes → signal ≤ 2 → offset ≤ 1
    → pulse_rule (16 * blocks_of khz subframes) khz subframes signal offset ≡ 0
unfolding pulse_rule pulse_numbers_ok
numbers_kept {khz} {subframes} signal offset r f p q =
    rw (rate_ok r, subframes_ok_lem f, le-leb signal 2 p, le-leb offset 1 q, eq-eqb (16 * blocks_of khz subframes) (16 * blocks_of khz subframes) refl)

accepted_pulses : (b : List ℕ) (d : Dec) (p : List ℤ) (khz subframes signal offset : ℕ) → pulses_rule b d p khz subframes signal offset ≡ 0
    → (decode_pulses b d p khz subframes signal offset).answer.refusal ≡ 0
unfolding decode_pulses
accepted_pulses b d p khz subframes signal offset e = rw (eq-eqb (pulses_rule b d p khz subframes signal offset) 0 e)

fresh_total : (b : List ℕ) → (dec_open b).state.total ≤ 33
unfolding dec_open opened
fresh_total b = chosen (λ (a : Decoded). a.state.total ≤ 33) (leb (length b) 1275) (λ e. omega arith) (λ e. omega arith)

-- behind accepted side indices
pub pulses_accepted : (b : List ℕ) (s : Setting) → Bytes b → (indices_of b s).refusal ≡ 0
    → let a = indices_of b s in
    let zeros = replicate (16 * blocks_of s.khz s.subframes) (pos 0) in
    (decode_pulses b a.state zeros s.khz s.subframes (nat_abs a.indices.signal) (nat_abs a.indices.offset)).answer.refusal ≡ 0
pulses_accepted b s y e =
    let g = indices_accepted b (dec_open b).state blank s y (record { gains = refl; ltp = refl; nlsf = refl }) e in
    let a = indices_of b s in
    let n = 16 * blocks_of s.khz s.subframes in
    let r = g.read.range in
    let k = numbers_kept (nat_abs a.indices.signal) (nat_abs a.indices.offset) g.was.numbers.rate g.was.numbers.subframes r.signal.most r.offset.most in
    let w = ap (λ (m : ℕ). pulse_rule m s.khz s.subframes (nat_abs a.indices.signal) (nat_abs a.indices.offset)) (length-replicate n (pos 0)) ∙ k in
    let o = gate_pass b a.state (record { sound = g.sound; low = omega (arith, g.most, fresh_total b) }) in
    accepted_pulses b a.state (replicate n (pos 0)) s.khz s.subframes (nat_abs a.indices.signal) (nat_abs a.indices.offset) (none_first _ _ o w)

-- ---- 9: the program reads 65,546 bytes, and an input that has as many goes on past its packet, whatever follows

and_false : (a : Bool) → a && false ≡ false
and_false true = refl
and_false false = refl

pub longer_refused : (s : List ℕ) → Bytes s → 65545 < length s → lister_text s ≡ refused_text 9
unfolding lister_text
longer_refused s y h =
    let e : length s ≡ 10 + pair_at s 8 → ⊥ = λ q. omega (arith, y 8, y 9) in
    rw (ne_eqb (length s) (10 + pair_at s 8) e, and_false (eqb (byte_at s 0) 7))
