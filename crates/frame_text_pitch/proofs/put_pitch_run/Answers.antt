-- None, or a lag and what else a voiced frame has. Assumes nothing.
use Rattle.std.proofs.Common.{◌≡◌, ℕ, ◌∷◌, ◌++◌, [], List, ℤ, pos, nat_abs, refl, sym, ap, ◌∙◌, arith, rules, length, take, get_or}
use borrow.Author.Tests.{eq-eqb, ne_eqb}
use mir.Syntax.{w8, w16}
use mir.Val.{SFits}
use mir.Facts.{to_z-of_z}
use Rattle.numerals.proofs.Put.{put_as}
use Rattle.listing.specs.Ascii.{ascii}
use Rattle.listing.specs.Lines.{counted}
use Rattle.silk.specs.declared.Indices.{Indices}
use Rattle.silk.specs.Inner.Indices.{Subframes, two, four}
use Rattle.frame_text.specs.FrameText.{pitch_of, pitch_text}
use Rattle.frame_text.proofs.EightBits.{widened}
use Rattle.frame_text_pitch.proofs.put_pitch_run.Goals as goal

else_four : {n : ℕ} → Subframes n → (n ≡ 2 → ⊥) → n ≡ 4
else_four two h = absurd (h refl)
else_four four h = refl

unvoiced : (n : ℕ) (x : Indices) → (nat_abs x.signal ≡ 2 → ⊥) → counted (ascii "pitch") [] ≡ pitch_text n x
unfolding pitch_of pitch_text
unvoiced n x h = rw (ne_eqb (nat_abs x.signal) 2 h)

voiced : (n : ℕ) (x : Indices) (l : List ℤ) → nat_abs x.signal ≡ 2 → l ≡ take n x.ltp
    → counted (ascii "pitch") (x.lag ∷ x.contour ∷ x.period ∷ (l ++ (x.scale ∷ []))) ≡ pitch_text n x
unfolding pitch_of pitch_text
voiced n x l h e =
    rw (eq-eqb (nat_abs x.signal) 2 h) (ap (λ (k : List ℤ). counted (ascii "pitch") (x.lag ∷ x.contour ∷ x.period ∷ (k ++ (x.scale ∷ [])))) e)

-- the first filter indices
first_two : (l : List ℤ) → length l ≡ 4 → get_or l 0 (pos 0) ∷ get_or l 1 (pos 0) ∷ [] ≡ take 2 l
first_two [] e = absurd (omega arith)
first_two (a ∷ []) e = absurd (omega arith)
first_two (a ∷ b ∷ l) e = refl

first_four : (l : List ℤ) → length l ≡ 4 → get_or l 0 (pos 0) ∷ get_or l 1 (pos 0) ∷ get_or l 2 (pos 0) ∷ get_or l 3 (pos 0) ∷ [] ≡ take 4 l
first_four [] e = absurd (omega arith)
first_four (a ∷ []) e = absurd (omega arith)
first_four (a ∷ b ∷ []) e = absurd (omega arith)
first_four (a ∷ b ∷ d ∷ []) e = absurd (omega arith)
first_four (a ∷ b ∷ d ∷ f ∷ l) e = refl

pub returns-then-unsigned_abs-ne2 : goal.returns-then-unsigned_abs-ne2
unfolding ascii
returns-then-unsigned_abs-ne2 c =
    let x = c.args.x in
    let f : SFits w8 x.signal = search rules in
    let v = rw (to_z-of_z f) at c.unsigned_abs.ensures.value in
    put_as c.put_counted_run.ensures (unvoiced c.args.subframes x (λ e. c.if-unsigned_abs-ne2.true (v ∙ e))) (omega arith)

pub returns-then-subframes-eq2 : goal.returns-then-subframes-eq2
unfolding ascii
returns-then-subframes-eq2 c =
    let x = c.args.x in
    let l = c.widened-ltp in
    let signal : SFits w8 x.signal = search rules in
    let lag : SFits w16 x.lag = search rules in
    let contour : SFits w8 x.contour = search rules in
    let period : SFits w8 x.period = search rules in
    let scale : SFits w8 x.scale = search rules in
    let long : length x.ltp ≡ 4 = search rules in
    let f0 : SFits w16 (get_or l.result 0 (pos 0)) = search rules in
    let f1 : SFits w16 (get_or l.result 1 (pos 0)) = search rules in
    let v = rw (to_z-of_z signal) at c.unsigned_abs.ensures.value in
    put_as c.put_counted_run-then-subframes-eq2.ensures
    (rw (
      to_z-of_z lag,
      widened c.from-contour.type_inv c.from-contour.ensures contour,
      widened c.from-period.type_inv c.from-period.ensures period,
      widened c.from-scale.type_inv c.from-scale.ensures scale,
      to_z-of_z f0,
      to_z-of_z f1,
      l.ensures,
    )
    (voiced 2 x _ (sym v ∙ c.if-unsigned_abs-ne2.false) (first_two x.ltp long) ∙ ap (λ (n : ℕ). pitch_text n x) (sym c.if-subframes-eq2.true)))
    (omega arith)

pub returns-else-subframes-eq2 : goal.returns-else-subframes-eq2
unfolding ascii
returns-else-subframes-eq2 c =
    let x = c.args.x in
    let l = c.widened-ltp in
    let signal : SFits w8 x.signal = search rules in
    let lag : SFits w16 x.lag = search rules in
    let contour : SFits w8 x.contour = search rules in
    let period : SFits w8 x.period = search rules in
    let scale : SFits w8 x.scale = search rules in
    let long : length x.ltp ≡ 4 = search rules in
    let f0 : SFits w16 (get_or l.result 0 (pos 0)) = search rules in
    let f1 : SFits w16 (get_or l.result 1 (pos 0)) = search rules in
    let f2 : SFits w16 (get_or l.result 2 (pos 0)) = search rules in
    let f3 : SFits w16 (get_or l.result 3 (pos 0)) = search rules in
    let v = rw (to_z-of_z signal) at c.unsigned_abs.ensures.value in
    put_as c.put_counted_run-else-subframes-eq2.ensures
    (rw (
      to_z-of_z lag,
      widened c.from-contour.type_inv c.from-contour.ensures contour,
      widened c.from-period.type_inv c.from-period.ensures period,
      widened c.from-scale.type_inv c.from-scale.ensures scale,
      to_z-of_z f0,
      to_z-of_z f1,
      to_z-of_z f2,
      to_z-of_z f3,
      l.ensures,
    )
    (voiced 4 x _ (sym v ∙ c.if-unsigned_abs-ne2.false) (first_four x.ltp long) ∙ ap (λ (n : ℕ). pitch_text n x) (sym (else_four c.requires.subframes_value c.if-subframes-eq2.false))))
    (omega arith)
