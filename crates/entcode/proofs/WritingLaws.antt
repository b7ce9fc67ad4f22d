-- Laws of the public calls on a writer: what an open gate and a kept rule give, and what a call's answer says.
-- Assumes nothing.
use Prim.Native.Nat.{ℕ, zero, suc, ◌^◌, ◌≤◌}
use mathlib.Core.Path.{◌≡◌, refl, sym, ap, ◌∙◌}
use mathlib.Core.Bool.{Bool, true, false, ◌&&◌, cond}
use mathlib.Core.List.{List}
use native.Mathlib.Omega.{arith}
use borrow.Author.Tests.{leb-true, le-leb, ltb-true, lt-ltb, eqb-true, eq-eqb, ne_eqb}
use lib.Dec.{leb, ltb, eqb}
use lib.IntN.{ℤ, pos, negsuc}
use lib.ListN.{length}
use lib.Signed.{le_z}
use Rattle.deciding.proofs.Both.{and_both, both_and, in_range_lem, range_in}
use Rattle.deciding.proofs.Choice.{chosen}
use Rattle.icdf.proofs.RuleLaws.{symbol_accepted}
use Rattle.refusals.specs.First.{first_of}
use Rattle.refusals.proofs.FirstLaws.{first_none}
use Rattle.entcode.specs.declared.Encoded.{Encoded}
use Rattle.entcode.specs.Models.{Model, Sym, bit, raw, num, tab, Allowed}
use Rattle.entcode.specs.Cuts.{account}
use Rattle.entcode.specs.Flat.{held_of, rem_of, err_of, error_of, Out, as_writer, flat}
use Rattle.entcode.specs.Inner.Writing.{Fair, Core}
use Rattle.entcode.specs.Writer.{Writer}
use Rattle.entcode.proofs.WriterLaws.{Firm}
use Rattle.entcode.specs.Sound.{window_ok, total_ok, range_ok_w, places_ok_w, signs_ok_w, run_ok_w, sound_w, gate_w}
use Rattle.entcode.specs.Rules.{exponent_ok, count_ok, number_ok, say_rule}
use Rattle.entcode.specs.Writing.{Sent, sent, takes, refuses, answered, written, finished, enc_sym, enc_done, enc_tell}

-- ---- the signed fields

rem_fair : (z : ℤ) → le_z (negsuc 0) z ≡ true → rem_of (held_of z) ≡ z
rem_fair (pos n) e = refl
rem_fair (negsuc n) e = let l : n ≤ 0 = leb-true n 0 e in let z : 0 ≡ n = omega arith in ap negsuc z

rem_most : (z : ℤ) → le_z z (pos 255) ≡ true → held_of z ≤ 256
rem_most (pos n) e = omega (arith, leb-true n 255 e)
rem_most (negsuc n) e = omega arith

error_fair : (z : ℤ) → le_z z (pos 0) ≡ true → error_of (err_of z) ≡ z
error_fair (pos n) e = let l : n ≤ 0 = leb-true n 0 e in let z : 0 ≡ n = omega arith in ap pos z
error_fair (negsuc n) e = refl

error_most : (z : ℤ) → le_z (negsuc 0) z ≡ true → err_of z ≤ 1
error_most (pos n) e = omega arith
error_most (negsuc n) e = omega (arith, leb-true n 0 e)

-- a held byte of at most 256, as it is counted here, and an error of at most 1 pass the test
signs_pass : (h e : ℕ) → h ≤ 256 → e ≤ 1
    → le_z (negsuc 0) (rem_of h) && (le_z (rem_of h) (pos 255) && (le_z (negsuc 0) (error_of e) && le_z (error_of e) (pos 0))) ≡ true
signs_pass zero zero a b = refl
signs_pass zero (suc zero) a b = refl
signs_pass h (suc (suc e)) a b = absurd (omega arith)
signs_pass (suc h) zero a b = rw (le-leb h 255 (omega arith))
signs_pass (suc h) (suc zero) a b = rw (le-leb h 255 (omega arith))

-- ---- a sound state

pub record Sound (o : Out) : Type 0 where
  pub fair : Fair o
  pub firm : Firm 1200033 (as_writer o)
  pub run : o.state.ext ≤ 150000
  pub least : 33 ≤ o.state.total
  pub most : o.state.total ≤ 1100000

pub sound_of : (o : Out) → sound_w o.buf o.state ≡ true → Sound o
unfolding sound_w
sound_of o e =
    let w = o.state in
    let p = and_both (range_ok_w w) _ e in
    let q = and_both (places_ok_w o.buf w) _ p.1 in
    let u = and_both (signs_ok_w w) _ q.1 in
    let v = and_both (window_ok w.window w.wbits) _ u.1 in
    let c = and_both (run_ok_w w) (total_ok w.total) v.1 in
    let p1 = and_both (ltb (2 ^ 23) w.rng) _ p.0 in
    let p2 = and_both (leb w.rng (2 ^ 31)) _ p1.1 in
    let q1 = and_both (eqb w.storage (length o.buf)) _ q.0 in
    let u1 = and_both (le_z (negsuc 0) w.rem) _ u.0 in
    let u2 = and_both (le_z w.rem (pos 255)) _ u1.1 in
    let u3 = and_both (le_z (negsuc 0) w.error) _ u2.1 in
    let v1 = and_both (leb w.wbits 32) _ v.0 in
    let t = in_range_lem 33 1100000 w.total c.1 in
    let run : w.ext ≤ 150000 = leb-true _ _ c.0 in
    record {
      fair = record { kept = eqb-true _ _ q1.0; rem = rem_fair w.rem u1.0; error = error_fair w.error u3.1 };
      firm =
          record {
            above = ltb-true _ _ p1.0;
            most = leb-true _ _ p2.0;
            fits = ltb-true _ _ p2.1;
            held = rem_most w.rem u2.0;
            tidy = omega (arith, t.0);
            trim =
                record {
                  fit = leb-true _ _ q1.1;
                  err = error_most w.error u3.0;
                  used = leb-true _ _ v1.0;
                  slim = ltb-true _ _ v1.1;
                };
          };
      run = run;
      least = t.0;
      most = t.1;
    }

-- the flat form of a firm writer whose run and total are those of a sound one is sound
pub sound_flat : (k : ℕ) (w : Writer) → Firm k w → w.front.run ≤ 150000 → 33 ≤ w.total → w.total ≤ 1100000 → sound_w (flat w).buf (flat w).state ≡ true
unfolding sound_w
sound_flat k w f r a b =
    let o = flat w in
    let s = o.state in
    both_and (range_ok_w s) _
    (both_and (ltb (2 ^ 23) s.rng) _ (lt-ltb _ _ f.above)
    (both_and (leb s.rng (2 ^ 31)) _ (le-leb _ _ f.most) (lt-ltb _ _ f.fits)))
    (both_and (places_ok_w o.buf s) _
    (both_and (eqb s.storage (length o.buf)) _ (eq-eqb (length o.buf) (length o.buf) refl) (le-leb _ _ f.trim.fit))
    (both_and (signs_ok_w s) _ (signs_pass w.front.held w.tail.room.err f.held f.trim.err)
    (both_and (window_ok s.window s.wbits) _
    (both_and (leb s.wbits 32) _ (le-leb _ _ f.trim.used) (lt-ltb _ _ f.trim.slim))
    (both_and (run_ok_w s) _ (le-leb _ _ r) (range_in 33 1100000 s.total a b)))))

-- ---- the gate

gate_parts : (a b d : Bool) → ◌≡◌ {A = ℕ} (cond a (cond b (cond d 0 3) 2) 1) 0 → (a ≡ true) × (b ≡ true) × (d ≡ true)
gate_parts true true true e = (refl, refl, refl)
gate_parts true true false e = absurd (omega arith)
gate_parts true false d e = absurd (omega arith)
gate_parts false b d e = absurd (omega arith)

-- a state that passes
pub record Open (o : Out) : Type 0 where
  pub core : Core o
  pub sound : Sound o
  pub low : o.state.total ≤ 1000000

pub gate_open : (o : Out) → gate_w o.buf o.state ≡ 0 → Open o
unfolding gate_w
gate_open o e =
    let g = gate_parts (leb (length o.buf) 1275) (sound_w o.buf o.state) (leb o.state.total 1000000) e in
    let s = sound_of o g.1 in
    let f = s.firm in
    let low : o.state.total ≤ 1000000 = leb-true _ _ g.2 in
    record {
      core =
          record {
            roomy = record { fair = s.fair; short = leb-true _ _ g.0; within = f.trim.fit };
            above = f.above;
            most = f.most;
            fits = f.fits;
            held = f.held;
            tidy = f.tidy;
            err = f.trim.err;
            used = f.trim.used;
            slim = f.trim.slim;
            few = omega arith;
          };
      sound = s;
      low = low;
    }

-- ---- the rules

rule_parts : (a b : Bool) → ◌≡◌ {A = ℕ} (cond a (cond b 0 8) 4) 0 → (a ≡ true) × (b ≡ true)
rule_parts true true e = (refl, refl)
rule_parts true false e = absurd (omega arith)
rule_parts false b e = absurd (omega arith)

-- an accepted symbol may be written
pub say_open : (m : Model) (v : ℕ) → say_rule m v ≡ 0 → Allowed m v
say_open (bit lp) v e =
    let g = rule_parts (exponent_ok lp) (leb v 1) e in
    record { readable = in_range_lem 1 15 lp g.0; fitting = leb-true _ _ g.1 }
say_open (raw n) v e =
    let g = rule_parts (count_ok n) (ltb v (2 ^ n)) e in
    record { readable = in_range_lem 1 25 n g.0; fitting = ltb-true _ _ g.1 }
say_open (num ft) v e =
    let g = rule_parts (number_ok ft) (ltb v ft) e in
    let r = and_both (leb 2 ft) (ltb ft (2 ^ 32)) g.0 in
    record { readable = (leb-true _ _ r.0, ltb-true _ _ r.1); fitting = ltb-true _ _ g.1 }
say_open (tab scale t) v e = let g = symbol_accepted scale t v e in record { readable = g.0; fitting = g.1 }

-- ---- the two outcomes of a call

pub answered_ok : (n : ℕ) (o : Out) (v : ℕ) (q : Out) → n ≡ 0 → takes v q ≡ answered n o v q
unfolding answered
answered_ok n o v q e = rw (eq-eqb n 0 e)

pub answered_no : (n : ℕ) (o : Out) (v : ℕ) (q : Out) → (n ≡ 0 → ⊥) → refuses n o ≡ answered n o v q
unfolding answered
answered_no n o v q h = rw (ne_eqb n 0 h)

-- a call that answers 0 was accepted
pub answered_none : (n : ℕ) (o : Out) (v : ℕ) (q : Out) → (answered n o v q).answer.refusal ≡ 0 → n ≡ 0
unfolding answered
answered_none n o v q =
    chosen (λ (s : Sent). s.answer.refusal ≡ 0 → n ≡ 0) (eqb n 0) (λ t e. eqb-true n 0 t) (λ t e. e)

-- what an accepted write had to begin with
pub record Accepted (o : Out) (s : Sym) : Type 0 where
  pub entry : Open o
  pub allowed : Allowed s.model s.value

pub write_accepted : (o : Out) (s : Sym) → (enc_sym o s).answer.refusal ≡ 0 → Accepted o s
unfolding enc_sym
write_accepted o s e =
    let n = first_none (gate_w o.buf o.state) (say_rule s.model s.value) (answered_none _ o 0 (written o s) e) in
    record { entry = gate_open o n.0; allowed = say_open s.model s.value n.1 }

-- ---- the number n that a call computed first decides: it runs, or it is refused

module _ (o : Out) (s : Sym) (n : ℕ) (e : n ≡ first_of (gate_w o.buf o.state) (say_rule s.model s.value)) where
  pub call_runs : n ≡ 0 → Accepted o s
  call_runs z =
      let p = first_none (gate_w o.buf o.state) (say_rule s.model s.value) (sym e ∙ z) in
      record { entry = gate_open o p.0; allowed = say_open s.model s.value p.1 }

  pub call_takes : (q : Out) → n ≡ 0 → q ≡ written o s → takes 0 q ≡ enc_sym o s
  unfolding enc_sym
  call_takes q z k = ap (takes 0) k ∙ answered_ok _ o 0 (written o s) (sym e ∙ z)

  pub call_refuses : (n ≡ 0 → ⊥) → refuses n o ≡ enc_sym o s
  unfolding enc_sym
  call_refuses h = ap (λ (m : ℕ). refuses m o) e ∙ answered_no _ o 0 (written o s) (λ z. h (e ∙ z))

-- finishing and the account have the gate alone
module _ (o : Out) (n : ℕ) (e : n ≡ gate_w o.buf o.state) where
  pub gate_runs : n ≡ 0 → Open o
  gate_runs z = gate_open o (sym e ∙ z)

  pub done_takes : (q : Out) → n ≡ 0 → q ≡ finished o → takes 0 q ≡ enc_done o
  unfolding enc_done
  done_takes q z k = ap (takes 0) k ∙ answered_ok _ o 0 (finished o) (sym e ∙ z)

  pub done_refuses : (n ≡ 0 → ⊥) → refuses n o ≡ enc_done o
  unfolding enc_done
  done_refuses h = ap (λ (m : ℕ). refuses m o) e ∙ answered_no _ o 0 (finished o) (λ z. h (e ∙ z))

  pub tell_takes : (v : ℕ) → n ≡ 0 → v ≡ account o.state.total o.state.rng → takes v o ≡ enc_tell o
  unfolding enc_tell
  tell_takes v z k = ap (λ (x : ℕ). takes x o) k ∙ answered_ok _ o _ o (sym e ∙ z)

  pub tell_refuses : (n ≡ 0 → ⊥) → refuses n o ≡ enc_tell o
  unfolding enc_tell
  tell_refuses h = ap (λ (m : ℕ). refuses m o) e ∙ answered_no _ o _ o (λ z. h (e ∙ z))

pub done_accepted : (o : Out) → (enc_done o).answer.refusal ≡ 0 → Open o
unfolding enc_done
done_accepted o e = gate_open o (answered_none _ o 0 (finished o) e)
