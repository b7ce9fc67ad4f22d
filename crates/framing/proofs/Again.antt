-- Every packet that keeps the rules is laid out of its frames: there is one layout whose bytes it is. Assumes nothing.
use Prim.Native.Nat.{ℕ, zero, suc, ◌+◌, ◌-◌, ◌*◌, ◌/◌, ◌%◌, ◌≤◌, ◌<◌}
use mathlib.Core.Path.{◌≡◌, refl, sym, ap, subst⁻¹, ◌∙◌}
use mathlib.Core.Bool.{Bool, true, false, cond}
use mathlib.Core.List.{List, [], ◌∷◌, ◌++◌}
use native.Mathlib.Omega.{arith}
use borrow.Author.Tests.{eq-eqb, lt-ltb, eqb-true, eqb-false}
use lib.Dec.{eqb, ltb}
use lib.ListN.{length, get_or, take, drop, replicate, length-drop, take-append-drop}
use lib.Seq.{drop-drop, length-take-le}
use Rattle.deciding.proofs.Both.{both_and}
use Rattle.lists.specs.Every.{every}
use Rattle.lists.specs.AtMost.{AtMost}
use Rattle.framing.specs.Toc.{config_of, code_of, by_code, duration}
use Rattle.framing.specs.Lengths.{lengths, widths, length_codes, total}
use Rattle.framing.specs.Padding.{pad_lengths, pad_bytes, pad_code, pad_tail}
use Rattle.framing.specs.declared.Form.{Form}
use Rattle.framing.specs.Form.{counted, plain, form_of, behind, firsts, head, room, sizes_of, head_of, padding, padding_of}
use Rattle.framing.specs.Rules.{keeps, varied_of, count_of}
use Rattle.framing.specs.Writing.{but_last, bit, count_byte, laid, alike}
use Rattle.framing.proofs.LengthLaws.{codes_again, at_most_drop}
use Rattle.framing.proofs.PaddingLaws.{pad_again, tail_again, some_lengths}
use Rattle.framing.proofs.Kept.{Kept, kept, by_bool, by_code_lem, form_0, form_1, form_2, form_3, own_3, head_equal, head_varied, firsts_varied, sizes_equal, sizes_varied}
use Rattle.framing.proofs.Whole.{whole, sizes_count}
use Rattle.framing.proofs.Laid.{Layout}

pub but_last_of : (a : List ℕ) (x : ℕ) → but_last (a ++ (x ∷ [])) ≡ a
unfolding but_last
but_last_of [] x = refl
but_last_of (b ∷ []) x = refl
but_last_of (b ∷ (c ∷ a)) x = ap (λ (l : List ℕ). b ∷ l) (but_last_of (c ∷ a) x)

every_same : (n a : ℕ) → every (λ b. eqb b a) (replicate n a) ≡ true
every_same zero a = refl
every_same (suc n) a = both_and (eqb a a) (every (λ (b : ℕ). eqb b a) (replicate n a)) (eq-eqb a a refl) (every_same n a)

pub alike_same : (n a : ℕ) → alike (replicate n a) ≡ true
unfolding alike
alike_same zero a = refl
alike_same (suc n) a = every_same n a

-- ---- the count byte and the padding's length bytes

bit_of : (x : ℕ) → x < 2 → bit (eqb x 1) ≡ x
bit_of zero h = refl
bit_of (suc zero) h = refl
bit_of (suc (suc n)) h = absurd (omega arith)

pub record Counted (b : ℕ) (r : List ℕ) (f : Form) : Type 0 where
  pub byte : count_byte f.count f.varied (padding f) ≡ b
  pub lens : pad_code (padding f) ≡ take f.lens r
  pub tail : pad_tail (padding f) ≡ f.pad

counted_again : (b : ℕ) (r : List ℕ) → b ≤ 255 → AtMost 255 r → (counted b r).lens ≤ length r → Counted b r (counted b r)
counted_again b r h y l =
    let v : bit (eqb (b / 128 % 2) 1) ≡ b / 128 % 2 = bit_of (b / 128 % 2) (omega arith) in
    by_bool (eqb (b / 64 % 2) 1)
    (λ p.
    let q : b / 64 % 2 ≡ 1 = eqb-true _ _ p in
    let g : pad_lengths r ≤ length r = rw p at l in
    let o : ltb 0 (pad_lengths r + pad_bytes r) ≡ true = lt-ltb 0 (pad_lengths r + pad_bytes r) (omega (arith, some_lengths r)) in
    record { byte = rw (p, o, v) (omega arith); lens = rw p (pad_again r y g); tail = rw p (tail_again r y g) })
    (λ p.
    let q : b / 64 % 2 ≡ 0 = omega (arith, eqb-false (b / 64 % 2) 1 p) in
    record { byte = rw (p, v) (omega arith); lens = rw p none; tail = rw p nothing })
  where
    none : pad_code 0 ≡ []
    none = unfold pad_code in refl

    nothing : pad_tail 0 ≡ 0
    nothing = unfold pad_tail in refl

-- ---- a packet's front

-- its first byte, and in arrangement 3 the count byte and the padding's length bytes
front_of : List ℕ → List ℕ
front_of s = get_or s 0 0 ∷ by_code (code_of s) [] [] [] (count_byte (count_of s) (varied_of s) (padding_of s) ∷ pad_code (padding_of s))

one_front : (s : List ℕ) → 1 ≤ length s → get_or s 0 0 ∷ [] ≡ take 1 s
one_front [] h = absurd (omega arith)
one_front (a ∷ s) h = refl

plain_front : (s : List ℕ) (f : Form) → form_of s ≡ f → f.own + f.lens ≡ 1 → 1 ≤ length s → front_of s ≡ get_or s 0 0 ∷ []
    → front_of s ≡ take ((form_of s).own + (form_of s).lens) s
plain_front s f e o h q =
    q ∙ one_front s h ∙ ap (λ (n : ℕ). take n s) (sym (ap (λ (g : Form). g.own + g.lens) e ∙ o))

third_front : (s : List ℕ) → code_of s ≡ 3 → AtMost 255 s → 2 + (form_of s).lens ≤ length s
    → (front_of s ≡ take (2 + (form_of s).lens) s) × (pad_tail (padding_of s) ≡ (form_of s).pad)
third_front [] e y h = absurd (omega arith)
third_front (a ∷ []) e y h = absurd (omega arith)
third_front (a ∷ (b ∷ r)) e y h =
    let s = a ∷ (b ∷ r) in
    let g : form_of s ≡ counted b r = form_3 s e in
    let c : Counted b r (form_of s) =
    subst⁻¹ (λ (f : Form). Counted b r f) g
    (counted_again b r (y 1) (λ i. y (suc (suc i))) (omega (arith, ap (λ (f : Form). f.lens) g))) in
    let n : 2 + (form_of s).lens ≡ suc (suc (form_of s).lens) = omega arith in (
      first s e ∙ ap (λ (x : ℕ). a ∷ (x ∷ pad_code (padding_of s))) c.byte ∙ ap (λ (l : List ℕ). a ∷ (b ∷ l)) c.lens
          ∙ ap (λ (m : ℕ). take m s) (sym n),
      c.tail,
    )
  where
    first : (s : List ℕ) → code_of s ≡ 3
        → front_of s ≡ get_or s 0 0 ∷ (count_byte (count_of s) (varied_of s) (padding_of s) ∷ pad_code (padding_of s))
    first s e = unfold front_of in rw e

-- ---- the layout of a packet that keeps the rules

no_padding : (f : Form) → padding f ≡ 0 → pad_tail (padding f) ≡ f.pad
unfolding pad_tail
no_padding f e = ap pad_tail e ∙ omega arith

module _ (s : List ℕ) (y : AtMost 255 s) (e : keeps s ≡ true) where
  abbrev f : Form
  f = form_of s

  abbrev ns : List ℕ
  ns = sizes_of s

  abbrev pub body_of : List ℕ
  body_of = take (total ns) (drop (head_of s) s)

  abbrev pub tail_of : List ℕ
  tail_of = drop (head_of s + total ns) s

  k : Kept s
  k = kept s e

  w : head_of s + total ns + f.pad ≡ length s
  w = whole f s k

  least : f.own + f.lens ≤ head_of s
  unfolding head
  least = omega arith

  front_is : (front_of s ≡ take (f.own + f.lens) s) × (pad_tail (padding_of s) ≡ f.pad)
  front_is =
      by_code_lem s (λ c. flat (plain 1 false) (form_0 s c) (refl, refl) (unfold front_of in rw c))
      (λ c. flat (plain 2 false) (form_1 s c) (refl, refl) (unfold front_of in rw c))
      (λ c. flat (plain 2 true) (form_2 s c) (refl, refl) (unfold front_of in rw c))
      (λ c.
      let o : f.own ≡ 2 = own_3 s c in
      let t = third_front s c y (omega (arith, w, least)) in
      (t.0 ∙ ap (λ (n : ℕ). take (n + f.lens) s) (sym o), t.1))
    where
      flat : (g : Form) → form_of s ≡ g → (g.own + g.lens ≡ 1) × (padding g ≡ 0) → front_of s ≡ get_or s 0 0 ∷ []
          → (front_of s ≡ take (f.own + f.lens) s) × (pad_tail (padding_of s) ≡ f.pad)
      flat g q o h =
          let z : f.own + f.lens ≡ 1 = ap (λ (j : Form). j.own + j.lens) q ∙ o.0 in
          (plain_front s g q o.0 (omega (arith, w, least)) h, no_padding f (ap padding q ∙ o.1))

  codes : List ℕ
  codes = cond f.varied (length_codes (but_last ns)) []

  codes_behind : behind f s ≡ codes ++ drop (head_of s) s
  codes_behind =
      by_bool f.varied
      (λ v.
      let r = behind f s in
      let m = widths (f.count - 1) r in
      let h : head_of s ≡ f.own + f.lens + m = head_varied f s v in
      let b : but_last ns ≡ lengths (f.count - 1) r =
      ap but_last (sizes_varied f s v) ∙ but_last_of (firsts f s) (room f s - total (firsts f s)) ∙ firsts_varied f s v in
      let c : codes ≡ take m r =
      codes_varied v ∙ ap length_codes b
      ∙ codes_again (f.count - 1) r (at_most_drop (f.own + f.lens) s y) (omega (arith, w, length-drop (f.own + f.lens) s)) in
      let d : drop (head_of s) s ≡ drop m r = ap (λ (n : ℕ). drop n s) h ∙ sym (drop-drop m (f.own + f.lens) s) in
      sym (take-append-drop m r) ∙ ap (λ (l : List ℕ). l ++ drop m r) (sym c) ∙ ap (λ (l : List ℕ). codes ++ l) (sym d))
      (λ v.
      let h : head_of s ≡ f.own + f.lens = head_equal f s v in
      ap (λ (n : ℕ). drop n s) (sym h) ∙ ap (λ (l : List ℕ). l ++ drop (head_of s) s) (sym (codes_equal v)))
    where
      codes_varied : f.varied ≡ true → codes ≡ length_codes (but_last ns)
      codes_varied v = unfold codes in ap (λ (b : Bool). cond b (length_codes (but_last ns)) []) v

      codes_equal : f.varied ≡ false → codes ≡ []
      codes_equal v = unfold codes in ap (λ (b : Bool). cond b (length_codes (but_last ns)) []) v

  pub body_tail : drop (head_of s) s ≡ body_of ++ tail_of
  body_tail =
      sym (take-append-drop (total ns) (drop (head_of s) s))
      ∙ ap (λ (l : List ℕ). body_of ++ l) (drop-drop (total ns) (head_of s) s)

  many : length ns ≡ f.count
  many = sizes_count f s k

  -- the packet is its layout
  pub is_laid : s ≡ laid (get_or s 0 0) f.varied (padding_of s) ns body_of tail_of
  is_laid =
      sym (take-append-drop (f.own + f.lens) s)
      ∙ ap (λ (l : List ℕ). l ++ behind f s) (sym front_is.0)
      ∙ ap (λ (l : List ℕ). front_of s ++ l) (codes_behind ∙ ap (λ (l : List ℕ). codes ++ l) body_tail)
      ∙ same
    where
      same : front_of s ++ (codes ++ (body_of ++ tail_of)) ≡ laid (get_or s 0 0) f.varied (padding_of s) ns body_of tail_of
      same =
          unfold front_of laid codes in
          ap (λ (n : ℕ).
          get_or s 0 0
          ∷ (by_code (code_of s) [] [] [] (count_byte n f.varied (padding_of s) ∷ pad_code (padding_of s))
          ++ (cond f.varied (length_codes (but_last ns)) [] ++ (body_of ++ tail_of)))) (sym many)

  few : f.count < 64
  few =
      by_code_lem s (λ c. subst⁻¹ (λ (g : Form). g.count < 64) (form_0 s c) (omega arith))
      (λ c. subst⁻¹ (λ (g : Form). g.count < 64) (form_1 s c) (omega arith))
      (λ c. subst⁻¹ (λ (g : Form). g.count < 64) (form_2 s c) (omega arith))
      (λ c. subst⁻¹ (λ (g : Form). g.count < 64) (form_3 s c) (omega arith))

  flat_of : (g : Form) → form_of s ≡ g → padding g ≡ 0 → (length ns ≡ g.count) × (f.varied ≡ g.varied) × (padding_of s ≡ 0)
  flat_of g q z = (many ∙ ap (λ (j : Form). j.count) q, ap (λ (j : Form). j.varied) q, ap padding q ∙ z)

  -- and the layout is in order
  pub in_order : Layout (get_or s 0 0) f.varied (padding_of s) ns body_of tail_of
  in_order =
      record {
        some = omega (arith, many, k.some);
        few = omega (arith, many, few);
        time = subst⁻¹ (λ (n : ℕ). n * duration (config_of s) ≤ 1200) many k.time;
        small = k.small;
        equal = λ v. ap alike (sizes_equal f s v) ∙ alike_same f.count (room f s / f.count);
        bytes = length-take-le (total ns) (drop (head_of s) s) (omega (arith, w, length-drop (head_of s) s));
        ending = omega (arith, w, length-drop (head_of s + total ns) s, front_is.1);
        one = λ c. flat_of (plain 1 false) (form_0 s c) refl;
        pair = λ c. flat_of (plain 2 false) (form_1 s c) refl;
        two = λ c. flat_of (plain 2 true) (form_2 s c) refl;
      }
