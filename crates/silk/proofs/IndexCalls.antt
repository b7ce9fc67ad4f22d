-- Laws of the call that reads side indices: what its numbers are once accepted, its two outcomes, and what an
-- accepted call hands back. Assumes nothing.
use Prim.Native.Nat.{ℕ, ◌+◌, ◌≤◌, ◌<◌}
use mathlib.Core.Path.{◌≡◌, refl, sym, ap, subst, ◌∙◌}
use mathlib.Core.Bool.{Bool, true, false, ◌||◌, cond}
use mathlib.Core.List.{List}
use native.Mathlib.Omega.{arith}
use borrow.Author.Tests.{eqb-true, leb-true, le-leb, eq-eqb, ne_eqb}
use lib.Dec.{eqb, leb}
use Rattle.deciding.proofs.Both.{and_both, both_and}
use Rattle.deciding.proofs.Choice.{chosen}
use Rattle.refusals.proofs.FirstLaws.{first_none}
use Rattle.entcode.specs.declared.Dec.{Dec}
use Rattle.entcode.specs.Sound.{gate_r}
use Rattle.entcode.specs.Reader.{Bytes}
use Rattle.entcode.proofs.ReadingLaws.{Sound, Open, gate_open}
use Rattle.tree.specs.Asks.{run}
use Rattle.tree.proofs.Outcomes.{Ended, ends_run}
use Rattle.silk.specs.declared.Indices.{Indices}
use Rattle.silk.specs.declared.IndicesRead.{IndicesRead}
use Rattle.silk.specs.declared.Setting.{Setting}
use Rattle.silk.specs.Inner.Indices.{Rate, eight, twelve, sixteen, Subframes, two, four}
use Rattle.silk.specs.IndexSyntax.{indices}
use Rattle.silk.specs.Record.{Shape}
use Rattle.silk.proofs.IndexRanges.{ReadOver, indices_end}
use Rattle.silk.specs.FrameCalls.{khz_ok, subframes_ok, setting_ok, indices_got, indices_kept, indices_rule, decode_indices}

-- ---- the numbers of a frame that is accepted

pub record Chosen (s : Setting) : Type 0 where
  pub rate : Rate s.khz
  pub subframes : Subframes s.subframes
  pub active : s.active < 2
  pub mode : s.mode ≤ 2
  pub prevtype : s.prevtype ≤ 2

rate_of : (khz : ℕ) → khz_ok khz ≡ true → Rate khz
rate_of khz = go (eqb khz 8) (eqb khz 12) (eqb khz 16) refl refl refl
  where
    go : (a b c : Bool) → eqb khz 8 ≡ a → eqb khz 12 ≡ b → eqb khz 16 ≡ c → a || (b || c) ≡ true → Rate khz
    go true b c p q r e = subst Rate (sym (eqb-true khz 8 p)) eight
    go false true c p q r e = subst Rate (sym (eqb-true khz 12 q)) twelve
    go false false c p q r e = subst Rate (sym (eqb-true khz 16 (r ∙ e))) sixteen

subframes_of : (n : ℕ) → subframes_ok n ≡ true → Subframes n
subframes_of n = go (eqb n 2) (eqb n 4) refl refl
  where
    go : (a b : Bool) → eqb n 2 ≡ a → eqb n 4 ≡ b → a || b ≡ true → Subframes n
    go true b p q e = subst Subframes (sym (eqb-true n 2 p)) two
    go false b p q e = subst Subframes (sym (eqb-true n 4 (q ∙ e))) four

pub setting_chosen : (s : Setting) → setting_ok s ≡ true → Chosen s
unfolding setting_ok
setting_chosen s e =
    let p = and_both (khz_ok s.khz) _ e in
    let q = and_both (subframes_ok s.subframes) _ p.1 in
    let u = and_both (leb s.active 1) _ q.1 in
    let v = and_both (leb s.mode 2) (leb s.prevtype 2) u.1 in
    let a : s.active ≤ 1 = leb-true _ _ u.0 in
    record {
      rate = rate_of s.khz p.0;
      subframes = subframes_of s.subframes q.0;
      active = omega arith;
      mode = leb-true _ _ v.0;
      prevtype = leb-true _ _ v.1;
    }

khz_ok_lem : {khz : ℕ} → Rate khz → khz_ok khz ≡ true
khz_ok_lem eight = refl
khz_ok_lem twelve = refl
khz_ok_lem sixteen = refl

subframes_ok_lem : {n : ℕ} → Subframes n → subframes_ok n ≡ true
subframes_ok_lem two = refl
subframes_ok_lem four = refl

pub chosen_setting : (s : Setting) → Chosen s → setting_ok s ≡ true
unfolding setting_ok
chosen_setting s c =
    both_and (khz_ok s.khz) _ (khz_ok_lem c.rate)
    (both_and (subframes_ok s.subframes) _ (subframes_ok_lem c.subframes)
    (both_and (leb s.active 1) _ (le-leb s.active 1 (omega (arith, c.active)))
    (both_and (leb s.mode 2) (leb s.prevtype 2) (le-leb _ _ c.mode) (le-leb _ _ c.prevtype))))

pub four_none : (t : Bool) → ◌≡◌ {A = ℕ} (cond t 0 4) 0 → t ≡ true
four_none true e = refl
four_none false e = absurd (omega arith)

-- no refusal: the state passed the gate, and the numbers are those of a frame
pub record Accepts (b : List ℕ) (d : Dec) (s : Setting) : Type 0 where
  pub passed : Open b d
  pub numbers : Chosen s

pub rule_accepts : (b : List ℕ) (d : Dec) (s : Setting) → indices_rule b d s ≡ 0 → Accepts b d s
rule_accepts b d s e =
    let f = first_none (gate_r b d) (cond (setting_ok s) 0 4) e in
    record { passed = gate_open b d f.0; numbers = setting_chosen s (four_none (setting_ok s) f.1) }

-- ---- the two outcomes

module _ (b : List ℕ) (d : Dec) (x : Indices) (s : Setting) where
  pub indices_runs : indices_rule b d s ≡ 0 → indices_got s.prevlag (run b d (indices s x)) ≡ decode_indices b d x s
  unfolding decode_indices
  indices_runs e = rw (eq-eqb _ _ e)

  pub indices_refused : (n : ℕ) → n ≡ indices_rule b d s → (n ≡ 0 → ⊥) → indices_kept n d x s ≡ decode_indices b d x s
  unfolding decode_indices
  indices_refused n p h = rw (ne_eqb (indices_rule b d s) 0 (λ z. h (p ∙ z))) (ap (λ (k : ℕ). indices_kept k d x s) p)

  -- the first refusal decides, and a refusal hands back state, record, previous type and lag as they came
  refusal_zero : (decode_indices b d x s).refusal ≡ 0 → indices_rule b d s ≡ 0
  unfolding decode_indices
  refusal_zero =
      chosen (λ (a : IndicesRead). a.refusal ≡ 0 → indices_rule b d s ≡ 0) (eqb (indices_rule b d s) 0) (λ t z. eqb-true _ _ t) (λ t z. z)

  -- what running the tree gives: every field read in its range, the others kept, and a total that grew by at most 816
  pub indices_ended : Bytes b → Accepts b d s → Shape x → Ended b d (ReadOver s x) 51 (run b d (indices s x))
  indices_ended y a h =
      ends_run (indices_end s x a.numbers.rate a.numbers.subframes h a.numbers.active) b d y a.passed.sound.core

  -- an accepted call
  pub record IndicesAccepted (a : IndicesRead) : Type 0 where
    pub was : Accepts b d s
    pub read : ReadOver s x a.indices
    pub sound : Sound b a.state
    pub least : d.total ≤ a.state.total
    pub most : a.state.total ≤ d.total + 816

  pub indices_accepted : Bytes b → Shape x → (decode_indices b d x s).refusal ≡ 0 → IndicesAccepted (decode_indices b d x s)
  indices_accepted y h z =
      let e = refusal_zero z in
      let a = rule_accepts b d s e in
      let g = indices_ended y a h in
      let q : IndicesAccepted (indices_got s.prevlag (run b d (indices s x))) = record {
        was = a;
        read = g.holds;
        sound = record {
          core = g.core;
          least = omega (arith, g.least, a.passed.sound.least);
          most = omega (arith, g.most, a.passed.low);
        };
        least = g.least;
        most = omega (arith, g.most);
      } in
      subst IndicesAccepted (indices_runs e) q
