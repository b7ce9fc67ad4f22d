-- Records that the index writer accepts: equal records, what symbols that may be written mean, and the two outcomes of the call.
-- Assumes nothing.
use Prim.Native.Nat.{ℕ}
use mathlib.Core.Path.{◌≡◌, refl, sym, ap, subst, ◌∙◌}
use mathlib.Core.Bool.{Bool, true, false, cond}
use mathlib.Core.List.{List, [], ◌∷◌}
use native.Mathlib.Omega.{arith}
use borrow.Author.Tests.{eqb-true, eq-eqb, ne_eqb}
use lib.Dec.{eqb}
use lib.IntN.{ℤ}
use Rattle.deciding.proofs.Both.{and_both, both_and}
use Rattle.ints.specs.Parts.{up, down}
use Rattle.ints.proofs.Order.{parts_same}
use Rattle.refusals.specs.First.{first_of}
use Rattle.refusals.proofs.FirstLaws.{first_none}
use Rattle.entcode.specs.declared.Dec.{Dec}
use Rattle.entcode.specs.Flat.{Out}
use Rattle.entcode.specs.Sound.{gate_w}
use Rattle.tree.specs.Asks.{got, run, symbols, meant}
use Rattle.tree.proofs.AsksLaws.{Gives, written_reads_back}
use Rattle.tree.specs.Telling.{written_all, all_said}
use Rattle.tree.proofs.TellingLaws.{ends_meant}
use Rattle.silk.specs.declared.Indices.{Indices}
use Rattle.silk.specs.declared.Setting.{Setting}
use Rattle.silk.specs.Record.{made, Shape}
use Rattle.silk.specs.IndexSyntax.{indices}
use Rattle.silk.proofs.IndexRanges.{InRange, indices_end}
use Rattle.silk.specs.FrameCalls.{setting_ok}
use Rattle.silk.proofs.IndexCalls.{Chosen, setting_chosen, four_none}
use Rattle.silk.specs.IndexWriting.{same_z, same_zs, same_indices, sayable, tell_rule, indices_told, indices_untold, encode_indices}

-- ---- equal records

same_number : (a b : ℤ) → same_z a b ≡ true → a ≡ b
same_number a b e =
    let p = and_both (eqb (up a) (up b)) (eqb (down a) (down b)) e in
    let u : up a ≡ up b = eqb-true _ _ p.0 in
    let v : down a ≡ down b = eqb-true _ _ p.1 in
    parts_same a b (omega arith)

same_numbers : (l m : List ℤ) → same_zs l m ≡ true → l ≡ m
same_numbers [] [] e = refl
same_numbers [] (b ∷ m) e = let z : ◌≡◌ {A = Bool} false true = e in let q : ◌≡◌ {A = ℕ} 0 1 = cc in absurd (omega arith)
same_numbers (a ∷ l) [] e = let z : ◌≡◌ {A = Bool} false true = e in let q : ◌≡◌ {A = ℕ} 0 1 = cc in absurd (omega arith)
same_numbers (a ∷ l) (b ∷ m) e =
    let p = and_both (same_z a b) (same_zs l m) e in
    let u : a ≡ b = same_number a b p.0 in
    let v : l ≡ m = same_numbers l m p.1 in
    cc

number_same : (a : ℤ) → same_z a a ≡ true
number_same a = both_and (eqb (up a) (up a)) (eqb (down a) (down a)) (eq-eqb (up a) (up a) refl) (eq-eqb (down a) (down a) refl)

numbers_same : (l : List ℤ) → same_zs l l ≡ true
numbers_same [] = refl
numbers_same (a ∷ l) = both_and (same_z a a) (same_zs l l) (number_same a) (numbers_same l)

pub same_sure : (x y : Indices) → x ≡ y → same_indices x y ≡ true
unfolding same_indices
same_sure x y e = subst (λ (z : Indices). same_indices z y ≡ true) (sym e) (itself y)
  where
    itself : (y : Indices) → same_indices y y ≡ true
    itself y =
        both_and (same_zs y.gains y.gains) _ (numbers_same y.gains) (both_and (same_zs y.ltp y.ltp) _ (numbers_same y.ltp) (both_and (same_zs y.nlsf y.nlsf) _ (numbers_same y.nlsf)
        (both_and (same_z y.lag y.lag) _ (number_same y.lag) (both_and (same_z y.contour y.contour) _ (number_same y.contour) (both_and (same_z y.signal y.signal) _ (number_same y.signal)
        (both_and (same_z y.offset y.offset) _ (number_same y.offset) (both_and (same_z y.interp y.interp) _ (number_same y.interp) (both_and (same_z y.period y.period) _ (number_same y.period)
        (both_and (same_z y.scale y.scale) (same_z y.seed y.seed) (number_same y.scale) (number_same y.seed))))))))))

same_fields : (g f n g' f' n' : List ℤ) (l c s o i p k d l' c' s' o' i' p' k' d' : ℤ)
    → g ≡ g' → f ≡ f' → n ≡ n' → l ≡ l' → c ≡ c' → s ≡ s' → o ≡ o' → i ≡ i' → p ≡ p' → k ≡ k' → d ≡ d'
    → made g f n l c s o i p k d ≡ made g' f' n' l' c' s' o' i' p' k' d'
same_fields g f n g' f' n' l c s o i p k d l' c' s' o' i' p' k' d' e1 e2 e3 e4 e5 e6 e7 e8 e9 e10 e11 = rw (e1, e2, e3, e4, e5, e6, e7, e8, e9, e10, e11)

pub same_record : (x y : Indices) → same_indices x y ≡ true → x ≡ y
unfolding same_indices
same_record x y e =
    let p1 = and_both (same_zs x.gains y.gains) _ e in
    let p2 = and_both (same_zs x.ltp y.ltp) _ p1.1 in
    let p3 = and_both (same_zs x.nlsf y.nlsf) _ p2.1 in
    let p4 = and_both (same_z x.lag y.lag) _ p3.1 in
    let p5 = and_both (same_z x.contour y.contour) _ p4.1 in
    let p6 = and_both (same_z x.signal y.signal) _ p5.1 in
    let p7 = and_both (same_z x.offset y.offset) _ p6.1 in
    let p8 = and_both (same_z x.interp y.interp) _ p7.1 in
    let p9 = and_both (same_z x.period y.period) _ p8.1 in
    let p10 = and_both (same_z x.scale y.scale) (same_z x.seed y.seed) p9.1 in
    same_fields _ _ _ _ _ _ _ _ _ _ _ _ _ _ _ _ _ _ _ _ _ _
    (same_numbers x.gains y.gains p1.0)
    (same_numbers x.ltp y.ltp p2.0)
    (same_numbers x.nlsf y.nlsf p3.0)
    (same_number x.lag y.lag p4.0)
    (same_number x.contour y.contour p5.0)
    (same_number x.signal y.signal p6.0)
    (same_number x.offset y.offset p7.0)
    (same_number x.interp y.interp p8.0)
    (same_number x.period y.period p9.0)
    (same_number x.scale y.scale p10.0)
    (same_number x.seed y.seed p10.1)

-- ---- what a record that may be written is

module _ (s : Setting) (x : Indices) (e : sayable s x ≡ true) where
  pub all_said_lem : all_said (symbols x (indices s x)) ≡ true
  unfolding sayable
  all_said_lem = (and_both (all_said (symbols x (indices s x))) _ e).0

  pub meant_is : meant x (indices s x) ≡ x
  unfolding sayable
  meant_is = same_record _ _ (and_both (all_said (symbols x (indices s x))) _ e).1

  -- its fields lie in the ranges that a reader gives
  pub sayable_in_range : Chosen s → Shape x → InRange s x
  sayable_in_range c h =
      subst (InRange s) meant_is (ends_meant x (indices_end s x c.rate c.subframes h c.active) all_said_lem).range

  -- a reader that gives its symbols reads it back
  pub sayable_reads_back : (b : List ℕ) (d z : Dec) → Gives b d (symbols x (indices s x)) z → run b d (indices s x) ≡ got x z
  sayable_reads_back b d z g = written_reads_back b d z x (indices s x) g ∙ ap (λ (y : Indices). got y z) meant_is

-- ---- the two outcomes

module _ (o : Out) (x : Indices) (s : Setting) where
  pub indices_told_lem : tell_rule o s x ≡ 0 → indices_told s x (written_all o (symbols x (indices s x))) ≡ encode_indices o x s
  unfolding encode_indices
  indices_told_lem e = rw (eq-eqb _ _ e)

  pub indices_untold_lem : (n : ℕ) → n ≡ tell_rule o s x → (n ≡ 0 → ⊥) → indices_untold n s o ≡ encode_indices o x s
  unfolding encode_indices
  indices_untold_lem n p h = rw (ne_eqb (tell_rule o s x) 0 (λ z. h (p ∙ z))) (ap (λ (k : ℕ). indices_untold k s o) p)

  eight_none : (t : Bool) → ◌≡◌ {A = ℕ} (cond t 0 8) 0 → t ≡ true
  eight_none true e = refl
  eight_none false e = absurd (omega arith)

  -- an accepted call had a record that may be written
  pub told_sayable : tell_rule o s x ≡ 0 → Chosen s × (sayable s x ≡ true)
  told_sayable e =
      let f = first_none (gate_w o.buf o.state) (first_of (cond (setting_ok s) 0 4) (cond (sayable s x) 0 8)) e in
      let g = first_none (cond (setting_ok s) 0 4) (cond (sayable s x) 0 8) f.1 in
      (setting_chosen s (four_none (setting_ok s) g.0), eight_none (sayable s x) g.1)
