-- And no other record may be written: the writer's lag is always absolute, so that a record that is accepted after a delta symbol is accepted without
-- one too. With `fields_sayable`: refusal 8 is exactly a field outside its range. Assumes nothing.
use Prim.Native.Nat.{ℕ, ◌/◌}
use mathlib.Core.Path.{◌≡◌, refl, sym, ap, subst, ◌∙◌}
use mathlib.Core.Bool.{Bool, true, false, ◌&&◌, cond}
use mathlib.Core.List.{◌++◌}
use native.Mathlib.Omega.{arith}
use lib.Dec.{eqb}
use lib.IntN.{ℤ}
use Rattle.deciding.proofs.Both.{and_both, both_and}
use Rattle.sheet.specs.Directory.{delta_lag_row}
use Rattle.entcode.specs.Models.{tab}
use Rattle.entcode.specs.Rules.{say_rule}
use Rattle.tree.specs.Asks.{Asks, done, then, symbols, meant}
use Rattle.tree.proofs.AsksLaws.{meant_then, symbols_then}
use Rattle.tree.specs.Telling.{all_said}
use Rattle.tree.proofs.TellingLaws.{said_front, said_back, said_both}
use Rattle.silk.specs.declared.Indices.{Indices}
use Rattle.silk.specs.declared.Setting.{Setting}
use Rattle.silk.specs.IndexSyntax.{absolute_lag, lag, pitch, voicing, indices, relative_in, relative_lag}
use Rattle.silk.specs.Record.{Shape}
use Rattle.silk.proofs.IndexCalls.{Chosen}
use Rattle.silk.specs.Inner.Indices.{Writes}
use Rattle.silk.proofs.IndexFields.{range_writes}
use Rattle.silk.specs.IndexWriting.{sayable}
use Rattle.silk.proofs.IndexWritingLaws.{meant_is, same_sure, sayable_in_range}

-- what y says along t it says along t', and means the same
record Follows {R A : Type 0} (y : R) (t t' : Asks R A) : Type 0 where
  pub means : meant y t ≡ meant y t'
  pub said : all_said (symbols y t) ≡ true → all_said (symbols y t') ≡ true

follows_itself : {R A : Type 0} {y : R} {t : Asks R A} → Follows y t t
follows_itself = record { means = refl; said = λ e. e }

follows_then : {R A B : Type 0} (y : R) (t t' : Asks R A) (g g' : A → Asks R B) → Follows y t t' → ((r : A) → Follows y (g r) (g' r)) → Follows y (then t g) (then t' g')
follows_then y t t' g g' f h =
    record {
      means = meant_then y t g ∙ (h (meant y t)).means ∙ ap (λ r. meant y (g' r)) f.means ∙ sym (meant_then y t' g');
      said = λ e.
          let k : all_said (symbols y t ++ symbols y (g (meant y t))) ≡ true = rw (symbols_then y t g) at e in
          let a : all_said (symbols y t') ≡ true = f.said (said_front (symbols y t) (symbols y (g (meant y t))) k) in
          let b : all_said (symbols y (g' (meant y t))) ≡ true = (h (meant y t)).said (said_back (symbols y t) (symbols y (g (meant y t))) k) in
          let c : all_said (symbols y (g' (meant y t'))) ≡ true = rw f.means at b in
          rw (symbols_then y t' g') (said_both (symbols y t') (symbols y (g' (meant y t'))) a c);
    }

-- a lag after delta symbol 0 is an absolute one
lag_follows : (r : Bool) (khz : ℕ) (before : ℤ) (y x : Indices) → Follows y (lag r khz before x) (lag false khz before x)
unfolding lag symbols meant all_said
lag_follows true khz before y x = record { means = refl; said = λ e. (and_both (eqb (say_rule (tab 8 delta_lag_row) 0) 0) (all_said (symbols y (absolute_lag khz x))) e).1 }
lag_follows false khz before y x = follows_itself

-- the same frame after one that was not voiced
abbrev unvoiced_before : Setting → Setting
unvoiced_before s =
    record { khz = s.khz; subframes = s.subframes; active = s.active; mode = s.mode; prevtype = 0; prevlag = s.prevlag }

not_relative : (mode : ℕ) → relative_in mode 0 ≡ false
not_relative mode = go (eqb mode 2)
  where
    go : (t : Bool) → t && false ≡ false
    go true = refl
    go false = refl

pitch_follows : (s : Setting) (y x : Indices) → Follows y (pitch s x) (pitch (unvoiced_before s) x)
unfolding pitch
pitch_follows s y x =
    follows_then y _ _ _ _
    (subst (λ (r : Bool). Follows y (lag (relative_lag s) s.khz s.prevlag x) (lag r s.khz s.prevlag x))
    (sym (not_relative s.mode)) (lag_follows (relative_lag s) s.khz s.prevlag y x))
    (λ a. follows_itself)

voicing_follows : (signal : ℕ) (s : Setting) (y x : Indices) → Follows y (voicing signal s x) (voicing signal (unvoiced_before s) x)
unfolding voicing
voicing_follows signal s y x = go (eqb signal 2)
  where
    go : (t : Bool) → Follows y (cond t (pitch s x) (done x)) (cond t (pitch (unvoiced_before s) x) (done x))
    go true = pitch_follows s y x
    go false = follows_itself

indices_follows : (s : Setting) (x : Indices) → Follows x (indices s x) (indices (unvoiced_before s) x)
unfolding indices
indices_follows s x =
    follows_then x _ _ _ _ follows_itself (λ k.
    follows_then x _ _ _ _ follows_itself (λ g.
    follows_then x _ _ _ _ follows_itself (λ q.
    follows_then x _ _ _ _ follows_itself (λ i.
    follows_then x _ _ _ _ (voicing_follows (k / 2) s x i) (λ v. follows_itself)))))

-- ---- what an accepted record is

pub sayable_writes : (s : Setting) (x : Indices) → Chosen s → Shape x → sayable s x ≡ true → Writes s x
unfolding sayable
sayable_writes s x c h e =
    let f = indices_follows s x in
    let p = and_both (all_said (symbols x (indices s x))) _ e in
    let m : meant x (indices (unvoiced_before s) x) ≡ x = sym f.means ∙ meant_is s x e in
    let q : sayable (unvoiced_before s) x ≡ true = both_and _ _ (f.said p.0) (same_sure _ _ m) in
    let d : Chosen (unvoiced_before s) = record { rate = c.rate; subframes = c.subframes; active = c.active; mode = c.mode; prevtype = omega arith } in
    range_writes s x (sayable_in_range s x e c h)
    (λ v. ((sayable_in_range (unvoiced_before s) x q d h).voiced v).absolute (not_relative s.mode))
