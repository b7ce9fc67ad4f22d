-- What the seven rules say together, of any arrangement: the frames and the padding are the packet behind its first bytes, none is
-- too long, and together they last at most 120 ms. Assumes nothing.
use Prim.Native.Nat.{ℕ, ◌+◌, ◌-◌, ◌*◌, ◌/◌, ◌%◌, ◌≤◌, ◌<◌}
use mathlib.Core.Path.{◌≡◌, refl, sym, ap, subst, subst⁻¹, ◌∙◌}
use mathlib.Core.Bool.{Bool, true, false, ◌&&◌, not, cond, true≢false, false≢true}
use mathlib.Core.List.{List, [], ◌∷◌, ◌++◌}
use native.Mathlib.Omega.{arith}
use native.Mathlib.Nat.{mod-one}
use borrow.Author.Tests.{leb-true, le-leb, eqb-true, eq-eqb, not-true}
use lib.Dec.{eqb, leb}
use lib.ListN.{length, get_or, drop, replicate, get_or-eq_default}
use Rattle.deciding.proofs.Both.{and_both, both_and}
use Rattle.deciding.proofs.Choice.{by_lt}
use Rattle.lists.specs.Every.{every}
use Rattle.lists.proofs.EveryLaws.{every_at}
use Rattle.framing.specs.Toc.{config_of, code_of, durations, duration}
use Rattle.framing.specs.Lengths.{length_of, width_of, lengths, widths, total}
use Rattle.framing.specs.declared.Form.{Form}
use Rattle.framing.specs.Form.{plain, counted, form_of, behind, firsts, head, room, sizes, head_of, padding_of}
use Rattle.framing.specs.Rules.{implies, is_code, varied_of, count_of, fits_frame, rule1, rule2, rule3, rule4, rule5, rule6, rule7, keeps}

-- ---- the form, by the code

pub form_0 : (s : List ℕ) → code_of s ≡ 0 → form_of s ≡ plain 1 false
unfolding form_of
form_0 s e = rw e

pub form_1 : (s : List ℕ) → code_of s ≡ 1 → form_of s ≡ plain 2 false
unfolding form_of
form_1 s e = rw e

pub form_2 : (s : List ℕ) → code_of s ≡ 2 → form_of s ≡ plain 2 true
unfolding form_of
form_2 s e = rw e

pub form_3 : (s : List ℕ) → code_of s ≡ 3 → form_of s ≡ counted (get_or s 1 0) (drop 2 s)
unfolding form_of
form_3 s e = rw e

pub by_code_lem : {A : Type 0} (s : List ℕ) → (code_of s ≡ 0 → A) → (code_of s ≡ 1 → A) → (code_of s ≡ 2 → A) → (code_of s ≡ 3 → A) → A
by_code_lem s a b c d =
    let n = code_of s in
    let h : n < 4 = omega arith in
    by_lt n 1 (λ i. a (omega arith))
    (λ i. by_lt n 2 (λ j. b (omega arith)) (λ j. by_lt n 3 (λ k. c (omega arith)) (λ k. d (omega arith))))

-- ---- with lengths and without

module _ (f : Form) (s : List ℕ) where
  pub head_equal : f.varied ≡ false → head f s ≡ f.own + f.lens
  unfolding head
  head_equal e = ap (λ (v : Bool). f.own + f.lens + cond v (widths (f.count - 1) (behind f s)) 0) e ∙ omega arith

  pub head_varied : f.varied ≡ true → head f s ≡ f.own + f.lens + widths (f.count - 1) (behind f s)
  unfolding head
  head_varied e = ap (λ (v : Bool). f.own + f.lens + cond v (widths (f.count - 1) (behind f s)) 0) e

  pub firsts_equal : f.varied ≡ false → firsts f s ≡ []
  unfolding firsts
  firsts_equal e = ap (λ (v : Bool). cond v (lengths (f.count - 1) (behind f s)) []) e

  pub firsts_varied : f.varied ≡ true → firsts f s ≡ lengths (f.count - 1) (behind f s)
  unfolding firsts
  firsts_varied e = ap (λ (v : Bool). cond v (lengths (f.count - 1) (behind f s)) []) e

  pub sizes_equal : f.varied ≡ false → sizes f s ≡ replicate f.count (room f s / f.count)
  unfolding sizes
  sizes_equal e =
      ap (λ (v : Bool). cond v (firsts f s ++ ((room f s - total (firsts f s)) ∷ [])) (replicate f.count (room f s / f.count))) e

  pub sizes_varied : f.varied ≡ true → sizes f s ≡ firsts f s ++ ((room f s - total (firsts f s)) ∷ [])
  unfolding sizes
  sizes_varied e =
      ap (λ (v : Bool). cond v (firsts f s ++ ((room f s - total (firsts f s)) ∷ [])) (replicate f.count (room f s / f.count))) e

-- ---- durations

pub duration_most : (c : ℕ) → duration c ≤ 600
duration_most c =
    by_lt c 32 (λ h. leb-true _ _ (every_at (λ n. leb n 600) durations 0 all c (below h)))
    (λ h. let e : duration c ≡ 0 = get_or-eq_default durations 0 (above h) in omega arith)
  where
    all : every (λ (n : ℕ). leb n 600) durations ≡ true
    all = unfold durations in refl

    size : length durations ≡ 32
    size = unfold durations in refl

    below : c < 32 → c < length durations
    below h = omega (arith, size)

    above : 32 ≤ c → length durations ≤ c
    above h = omega (arith, size)

-- ---- what is kept

pub record KeptBy (f : Form) (s : List ℕ) : Type 0 where
  pub some : 1 ≤ f.count
  pub time : f.count * duration (config_of s) ≤ 1200
  pub fits : head f s + total (firsts f s) + f.pad ≤ length s
  pub shares : f.varied ≡ false → room f s % f.count ≡ 0
  pub small : every fits_frame (sizes f s) ≡ true

abbrev pub Kept : List ℕ → Type 0
Kept s = KeptBy (form_of s) s

implied : (t b : Bool) → implies t b ≡ true → t ≡ true → b ≡ true
implied true b e h = e
implied false b e h = absurd (false≢true h)

implying : (t b : Bool) → (t ≡ true → b ≡ true) → implies t b ≡ true
implying true b f = f refl
implying false b f = refl

record Rules (s : List ℕ) : Type 0 where
  r1 : rule1 s ≡ true
  r2 : rule2 s ≡ true
  r3 : rule3 s ≡ true
  r4 : rule4 s ≡ true
  r5 : rule5 s ≡ true
  r6 : rule6 s ≡ true
  r7 : rule7 s ≡ true

rules : (s : List ℕ) → keeps s ≡ true → Rules s
unfolding keeps
rules s e =
    let a = and_both (rule1 s) (rule2 s && (rule3 s && (rule4 s && (rule5 s && (rule6 s && rule7 s))))) e in
    let b = and_both (rule2 s) (rule3 s && (rule4 s && (rule5 s && (rule6 s && rule7 s)))) a.1 in
    let c = and_both (rule3 s) (rule4 s && (rule5 s && (rule6 s && rule7 s))) b.1 in
    let d = and_both (rule4 s) (rule5 s && (rule6 s && rule7 s)) c.1 in
    let f = and_both (rule5 s) (rule6 s && rule7 s) d.1 in
    let g = and_both (rule6 s) (rule7 s) f.1 in
    record { r1 = a.0; r2 = b.0; r3 = c.0; r4 = d.0; r5 = f.0; r6 = g.0; r7 = g.1 }

small_by : (f : Form) (s : List ℕ) → form_of s ≡ f → rule2 s ≡ true → every fits_frame (sizes f s) ≡ true
unfolding rule2
small_by f s e h = rw e at h

kept_0 : (s : List ℕ) → code_of s ≡ 0 → Rules s → KeptBy (plain 1 false) s
unfolding head firsts total rule1
kept_0 s e r =
    let n : 1 ≤ length s = leb-true _ _ r.r1 in
    record {
      some = omega arith;
      time = omega (arith, duration_most (config_of s));
      fits = omega arith;
      shares = λ h. mod-one (length s - 1);
      small = small_by (plain 1 false) s (form_0 s e) r.r2;
    }

kept_1 : (s : List ℕ) → code_of s ≡ 1 → Rules s → KeptBy (plain 2 false) s
unfolding head firsts total rule1 rule3
kept_1 s e r =
    let n : 1 ≤ length s = leb-true _ _ r.r1 in
    let m : length s % 2 ≡ 1 = eqb-true _ _ (implied (is_code 1 s) (eqb (length s % 2) 1) r.r3 (eq-eqb _ _ e)) in
    record {
      some = omega arith;
      time = omega (arith, duration_most (config_of s));
      fits = omega arith;
      shares = λ h. omega arith;
      small = small_by (plain 2 false) s (form_1 s e) r.r2;
    }

kept_2 : (s : List ℕ) → code_of s ≡ 2 → Rules s → KeptBy (plain 2 true) s
unfolding head firsts total rule1 rule4 lengths widths
kept_2 s e r =
    let m : 1 + width_of (drop 1 s) + length_of (drop 1 s) ≤ length s =
    leb-true _ _ (implied (is_code 2 s) (leb (1 + width_of (drop 1 s) + length_of (drop 1 s)) (length s)) r.r4 (eq-eqb _ _ e)) in
    record {
      some = omega arith;
      time = omega (arith, duration_most (config_of s));
      fits = omega arith;
      shares = λ h. absurd (true≢false h);
      small = small_by (plain 2 true) s (form_2 s e) r.r2;
    }

pub own_3 : (s : List ℕ) → code_of s ≡ 3 → (form_of s).own ≡ 2
own_3 s e = ap (λ (f : Form). f.own) (form_3 s e)

pub by_bool : {A : Type 0} (t : Bool) → (t ≡ true → A) → (t ≡ false → A) → A
by_bool true f g = f refl
by_bool false f g = g refl

pub none_first : (f : Form) (s : List ℕ) → f.varied ≡ false → total (firsts f s) ≡ 0
none_first f s v = ap total (firsts_equal f s v) ∙ (unfold total in refl)

-- arrangement 3: the count and the time
counted_3 : (s : List ℕ) → code_of s ≡ 3 → rule5 s ≡ true → (1 ≤ count_of s) × (count_of s * duration (config_of s) ≤ 1200)
unfolding rule5
counted_3 s e r =
    let p = and_both (leb 1 (count_of s)) (leb (count_of s * duration (config_of s)) 1200)
    (implied (is_code 3 s) (leb 1 (count_of s) && leb (count_of s * duration (config_of s)) 1200) r (eq-eqb _ _ e)) in
    (leb-true _ _ p.0, leb-true _ _ p.1)

kept_varied : (s : List ℕ) → code_of s ≡ 3 → Rules s → varied_of s ≡ true → Kept s
unfolding rule7
kept_varied s e r v =
    record {
      some = (counted_3 s e r.r5).0;
      time = (counted_3 s e r.r5).1;
      fits = leb-true _ _ (implied (is_code 3 s && varied_of s) (leb (head_of s + total (firsts (form_of s) s) + (form_of s).pad) (length s))
          r.r7
          (both_and (is_code 3 s) (varied_of s) (eq-eqb _ _ e) v));
      shares = λ h. absurd (true≢false (sym v ∙ h));
      small = small_by (form_of s) s refl r.r2;
    }

-- with equal frames what stands before and behind them is P and two bytes
around : (s : List ℕ) → code_of s ≡ 3 → varied_of s ≡ false → head_of s + (form_of s).pad ≡ 2 + padding_of s
around s e v = omega (arith, head_equal (form_of s) s v, own_3 s e)

kept_equal : (s : List ℕ) → code_of s ≡ 3 → Rules s → varied_of s ≡ false → Kept s
unfolding rule6
kept_equal s e r v =
    let a : head_of s + (form_of s).pad ≡ 2 + padding_of s = around s e v in
    let p = and_both (leb (2 + padding_of s) (length s)) (eqb ((length s - (2 + padding_of s)) % count_of s) 0)
    (implied (is_code 3 s && not (varied_of s)) (leb (2 + padding_of s) (length s) && eqb ((length s - (2 + padding_of s)) % count_of s) 0)
    r.r6 (both_and (is_code 3 s) (not (varied_of s)) (eq-eqb _ _ e) (ap not v))) in
    let l : 2 + padding_of s ≤ length s = leb-true _ _ p.0 in
    record {
      some = (counted_3 s e r.r5).0;
      time = (counted_3 s e r.r5).1;
      fits = omega (arith, none_first (form_of s) s v);
      shares = λ h. ap (λ (n : ℕ). (length s - n) % count_of s) a ∙ eqb-true _ _ p.1;
      small = small_by (form_of s) s refl r.r2;
    }

pub kept : (s : List ℕ) → keeps s ≡ true → Kept s
kept s k =
    let r = rules s k in
    by_code_lem s
    (λ e. subst⁻¹ (λ (f : Form). KeptBy f s) (form_0 s e) (kept_0 s e r))
    (λ e. subst⁻¹ (λ (f : Form). KeptBy f s) (form_1 s e) (kept_1 s e r))
    (λ e. subst⁻¹ (λ (f : Form). KeptBy f s) (form_2 s e) (kept_2 s e r))
    (λ e. by_bool (varied_of s) (λ v. kept_varied s e r v) (λ v. kept_equal s e r v))

-- ---- and the other way round

keeps_1 : (s : List ℕ) → Kept s → rule1 s ≡ true
unfolding rule1
keeps_1 s k = le-leb 1 (length s) (omega (arith, k.fits, first s))
  where
    first : (s : List ℕ) → 1 ≤ head_of s
    first s =
        by_code_lem s (λ e. subst⁻¹ (λ (f : Form). 1 ≤ head f s) (form_0 s e) (unfold head in omega arith))
        (λ e. subst⁻¹ (λ (f : Form). 1 ≤ head f s) (form_1 s e) (unfold head in omega arith))
        (λ e. subst⁻¹ (λ (f : Form). 1 ≤ head f s) (form_2 s e) (unfold head in omega arith))
        (λ e. subst⁻¹ (λ (f : Form). 1 ≤ head f s) (form_3 s e) (unfold head in omega arith))

keeps_3 : (s : List ℕ) → Kept s → rule3 s ≡ true
unfolding rule3
keeps_3 s k =
    implying (is_code 1 s) (eqb (length s % 2) 1) (λ t.
    let e : form_of s ≡ plain 2 false = form_1 s (eqb-true _ _ t) in
    eq-eqb _ _ (odd (subst (λ (f : Form). KeptBy f s) e k)))
  where
    odd : KeptBy (plain 2 false) s → length s % 2 ≡ 1
    odd q = unfold head in omega (arith, q.fits, q.shares refl)

keeps_4 : (s : List ℕ) → Kept s → rule4 s ≡ true
unfolding rule4
keeps_4 s k =
    implying (is_code 2 s) (leb (1 + width_of (drop 1 s) + length_of (drop 1 s)) (length s)) (λ t.
    let e : form_of s ≡ plain 2 true = form_2 s (eqb-true _ _ t) in
    le-leb _ _ (enough (subst (λ (f : Form). KeptBy f s) e k)))
  where
    enough : KeptBy (plain 2 true) s → 1 + width_of (drop 1 s) + length_of (drop 1 s) ≤ length s
    enough q = unfold head firsts lengths widths total in omega (arith, q.fits)

keeps_5 : (s : List ℕ) → Kept s → rule5 s ≡ true
unfolding rule5
keeps_5 s k =
    implying (is_code 3 s) (leb 1 (count_of s) && leb (count_of s * duration (config_of s)) 1200) (λ t.
    both_and (leb 1 (count_of s)) (leb (count_of s * duration (config_of s)) 1200) (le-leb _ _ k.some) (le-leb _ _ k.time))

keeps_6 : (s : List ℕ) → Kept s → rule6 s ≡ true
unfolding rule6
keeps_6 s k =
    implying (is_code 3 s && not (varied_of s)) (leb (2 + padding_of s) (length s) && eqb ((length s - (2 + padding_of s)) % count_of s) 0)
    (λ t.
    let p = and_both (is_code 3 s) (not (varied_of s)) t in
    let v : varied_of s ≡ false = not-true (varied_of s) p.1 in
    let a : head_of s + (form_of s).pad ≡ 2 + padding_of s = around s (eqb-true _ _ p.0) v in
    both_and (leb (2 + padding_of s) (length s)) (eqb ((length s - (2 + padding_of s)) % count_of s) 0)
    (le-leb (2 + padding_of s) (length s) (omega (arith, k.fits)))
    (eq-eqb _ _ (ap (λ (n : ℕ). (length s - n) % count_of s) (sym a) ∙ k.shares v)))

keeps_7 : (s : List ℕ) → Kept s → rule7 s ≡ true
unfolding rule7
keeps_7 s k =
    implying (is_code 3 s && varied_of s) (leb (head_of s + total (firsts (form_of s) s) + (form_of s).pad) (length s))
    (λ t. le-leb _ _ k.fits)

pub kept_keeps : (s : List ℕ) → Kept s → keeps s ≡ true
unfolding keeps rule2
kept_keeps s k =
    both_and _ _ (keeps_1 s k)
    (both_and _ _ k.small
    (both_and _ _ (keeps_3 s k) (both_and _ _ (keeps_4 s k) (both_and _ _ (keeps_5 s k) (both_and _ _ (keeps_6 s k) (keeps_7 s k))))))
