-- Laws of the public calls on a reader: what an open gate and a kept rule give, and what an accepted call hands back.
-- Assumes nothing.
use Prim.Native.Nat.{ℕ, ◌-◌, ◌^◌, ◌≤◌}
use mathlib.Core.Path.{◌≡◌, refl, sym, ap, subst, ◌∙◌}
use mathlib.Core.Bool.{Bool, true, false, cond}
use mathlib.Core.List.{List}
use native.Mathlib.Omega.{arith}
use borrow.Author.Tests.{leb-true, ltb-true, eqb-true, le-leb, lt-ltb, eq-eqb, ne_eqb}
use lib.Dec.{leb, ltb, eqb}
use lib.ListN.{length}
use Rattle.deciding.proofs.Both.{and_both, in_range_lem}
use Rattle.deciding.proofs.Choice.{chosen}
use Rattle.icdf.proofs.RuleLaws.{icdf_accepted}
use Rattle.refusals.specs.First.{first_of}
use Rattle.refusals.proofs.FirstLaws.{first_none}
use Rattle.bitlen.proofs.LengthLaws.{length_most}
use Rattle.entcode.specs.declared.Dec.{Dec}
use Rattle.entcode.specs.declared.Decoded.{Decoded}
use Rattle.entcode.specs.Models.{Model, bit, raw, num, tab, Readable}
use Rattle.entcode.specs.Sound.{window_ok, total_ok, range_ok_r, places_ok_r, small_ok_r, sound_r, gate, gate_r}
use Rattle.entcode.specs.Rules.{exponent_ok, count_ok, number_ok, ask_rule}
use Rattle.entcode.specs.Reader.{read_val, read_next, Bytes}
use Rattle.entcode.specs.Inner.Reading.{Core, growth}
use Rattle.entcode.proofs.ReadLaws.{grows}
use Rattle.entcode.specs.Reading.{gives, refuses, answered, dec_sym}

-- ---- the gate

pub gate_none : (n : ℕ) (t : Bool) (k : ℕ) → gate n t k ≡ 0 → (n ≤ 1275) × (t ≡ true) × (k ≤ 1000000)
gate_none n t k e = let g = parts (leb n 1275) t (leb k 1000000) e in (leb-true _ _ g.0, g.1, leb-true _ _ g.2)
  where
    parts : (a b d : Bool) → ◌≡◌ {A = ℕ} (cond a (cond b (cond d 0 3) 2) 1) 0 → (a ≡ true) × (b ≡ true) × (d ≡ true)
    parts true true true e = (refl, refl, refl)
    parts true true false e = absurd (omega arith)
    parts true false d e = absurd (omega arith)
    parts false b d e = absurd (omega arith)

-- a sound reader of a packet that is short enough
pub record Sound (b : List ℕ) (d : Dec) : Type 0 where
  pub core : Core b d
  pub least : 33 ≤ d.total
  pub most : d.total ≤ 1100000

pub sound_of : (b : List ℕ) (d : Dec) → length b ≤ 1275 → sound_r b d ≡ true → Sound b d
unfolding sound_r
sound_of b d short e =
    let p = and_both (range_ok_r d) _ e in
    let q = and_both (places_ok_r b d) _ p.1 in
    let u = and_both (small_ok_r d) _ q.1 in
    let v = and_both (window_ok d.window d.wbits) (total_ok d.total) u.1 in
    let p1 = and_both (ltb (2 ^ 23) d.rng) _ p.0 in
    let p2 = and_both (leb d.rng (2 ^ 31)) _ p1.1 in
    let q1 = and_both (eqb d.storage (length b)) _ q.0 in
    let q2 = and_both (leb d.offs (length b)) _ q1.1 in
    let u1 = and_both (leb d.rem 255) _ u.0 in
    let v1 = and_both (leb d.wbits 32) _ v.0 in
    let w1 = in_range_lem 33 1100000 d.total v.1 in
    record {
      core = record {
        short = short;
        above = ltb-true _ _ p1.0;
        most = leb-true _ _ p2.0;
        inside = ltb-true _ _ p2.1;
        kept = eqb-true _ _ q1.0;
        place = leb-true _ _ q2.0;
        back = leb-true _ _ q2.1;
        held = leb-true _ _ u1.0;
        flag = leb-true _ _ u1.1;
        used = leb-true _ _ v1.0;
        slim = ltb-true _ _ v1.1;
      };
      least = w1.0;
      most = w1.1;
    }

pub of_sound : (b : List ℕ) (d : Dec) → Sound b d → sound_r b d ≡ true
unfolding sound_r
of_sound b d h =
    let c = h.core in
    rw (
      lt-ltb _ _ c.above,
      le-leb _ _ c.most,
      lt-ltb _ _ c.inside,
      eq-eqb _ _ c.kept,
      le-leb _ _ c.place,
      le-leb _ _ c.back,
      le-leb _ _ c.held,
      le-leb _ _ c.flag,
      le-leb _ _ c.used,
      lt-ltb _ _ c.slim,
      le-leb _ _ h.least,
      le-leb _ _ h.most,
    )

-- a state that passes the gate
pub record Open (b : List ℕ) (d : Dec) : Type 0 where
  pub sound : Sound b d
  pub low : d.total ≤ 1000000

pub gate_open : (b : List ℕ) (d : Dec) → gate_r b d ≡ 0 → Open b d
unfolding gate_r
gate_open b d e =
    let g = gate_none (length b) (sound_r b d) d.total e in
    record { sound = sound_of b d g.0 g.1; low = g.2 }

pub gate_pass : (b : List ℕ) (d : Dec) → Open b d → gate_r b d ≡ 0
unfolding gate_r
gate_pass b d h = rw (le-leb _ _ h.sound.core.short, of_sound b d h.sound, le-leb _ _ h.low)

-- ---- the rules

ask_true : (t : Bool) → ◌≡◌ {A = ℕ} (cond t 0 4) 0 → t ≡ true
ask_true true e = refl
ask_true false e = absurd (omega arith)

pub ask_open : (m : Model) → ask_rule m ≡ 0 → Readable m
ask_open (bit lp) e = in_range_lem 1 15 lp (ask_true (exponent_ok lp) e)
ask_open (raw n) e = in_range_lem 1 25 n (ask_true (count_ok n) e)
ask_open (num ft) e =
    let p = and_both (leb 2 ft) (ltb ft (2 ^ 32)) (ask_true (number_ok ft) e) in
    (leb-true _ _ p.0, ltb-true _ _ p.1)
ask_open (tab scale t) e = icdf_accepted scale t e

-- ---- the two outcomes of a call

pub answered_ok : (n : ℕ) (d : Dec) (v : ℕ) (q : Dec) → n ≡ 0 → gives v q ≡ answered n d v q
unfolding answered
answered_ok n d v q e = rw (eq-eqb n 0 e)

pub answered_no : (n : ℕ) (d : Dec) (v : ℕ) (q : Dec) → (n ≡ 0 → ⊥) → refuses n d ≡ answered n d v q
unfolding answered
answered_no n d v q h = rw (ne_eqb n 0 h)

-- a call that answers refusal 0 was accepted
pub answered_zero : (n : ℕ) (d : Dec) (v : ℕ) (q : Dec) → (answered n d v q).refusal ≡ 0 → n ≡ 0
unfolding answered
answered_zero n d v q =
    chosen (λ (a : Decoded). a.refusal ≡ 0 → n ≡ 0) (eqb n 0) (λ t z. eqb-true n 0 t) (λ t z. z)

-- a call whose number n is the first of the gate's and the rule's refusals
module _ (b : List ℕ) (d : Dec) (m : Model) (n : ℕ) (e : n ≡ first_of (gate_r b d) (ask_rule m)) where
  pub call_open : n ≡ 0 → Open b d × Readable m
  call_open z = let f = first_none (gate_r b d) (ask_rule m) (sym e ∙ z) in (gate_open b d f.0, ask_open m f.1)

  pub call_runs : n ≡ 0 → gives (read_val b m d) (read_next b m d) ≡ dec_sym b d m
  unfolding dec_sym
  call_runs z = answered_ok _ d (read_val b m d) (read_next b m d) (sym e ∙ z)

  pub call_refused : (n ≡ 0 → ⊥) → refuses n d ≡ dec_sym b d m
  unfolding dec_sym
  call_refused h = ap (λ (k : ℕ). refuses k d) e ∙ answered_no _ d (read_val b m d) (read_next b m d) (λ z. h (e ∙ z))

-- what an accepted read had, and hands back
pub record Accepted (b : List ℕ) (d : Dec) (m : Model) (a : Decoded) : Type 0 where
  pub was : Open b d
  pub readable : Readable m
  pub is : a ≡ gives (read_val b m d) (read_next b m d)

pub accepted : (b : List ℕ) (d : Dec) (m : Model) → (dec_sym b d m).refusal ≡ 0 → Accepted b d m (dec_sym b d m)
unfolding dec_sym
accepted b d m z =
    let n = answered_zero (first_of (gate_r b d) (ask_rule m)) d (read_val b m d) (read_next b m d) z in
    let f = first_none (gate_r b d) (ask_rule m) n in
    record {
      was = gate_open b d f.0;
      readable = ask_open m f.1;
      is = sym (answered_ok _ d (read_val b m d) (read_next b m d) n);
    }

growth_most : (m : Model) → Readable m → growth m ≤ 40
growth_most (bit lp) o = omega arith
growth_most (raw n) o = omega (arith, o.1)
growth_most (num ft) o = omega (arith, length_most (ft - 1))
growth_most (tab scale t) o = omega arith

-- an accepted read hands back a sound state: the total grows by at most 40
pub sound_after : (b : List ℕ) (d : Dec) (m : Model) → Bytes b → (dec_sym b d m).refusal ≡ 0 → Sound b (dec_sym b d m).state
sound_after b d m y z =
    let a = accepted b d m z in
    let g = grows b m d y a.readable a.was.sound.core in
    let l = growth_most m a.readable in
    let s : Sound b (read_next b m d) = record {
      core = g.core;
      least = omega (arith, g.least, a.was.sound.least);
      most = omega (arith, g.most, a.was.low);
    } in
    subst (λ (x : Decoded). Sound b x.state) (sym a.is) s
