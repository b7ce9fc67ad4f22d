-- A packet that is laid out of its frames keeps the rules and reads back: its form, its sizes, its frames. Assumes nothing.
use Prim.Native.Nat.{ℕ, zero, suc, ◌+◌, ◌-◌, ◌*◌, ◌/◌, ◌%◌, ◌≤◌, ◌<◌}
use mathlib.Core.Path.{◌≡◌, refl, sym, ap, subst⁻¹, ◌∙◌}
use mathlib.Core.Bool.{Bool, true, false, cond}
use mathlib.Core.List.{List, [], ◌∷◌, ◌++◌, append_assoc}
use native.Mathlib.Omega.{arith}
use native.Mathlib.Nat.{mul-div_cancel_left, mul-mod_right}
use borrow.Author.Tests.{lt-ltb, eqb-true}
use lib.Dec.{eqb, ltb}
use lib.ListN.{length, take, drop, replicate, length-append, length-drop}
use lib.Seq.{drop_at, take-append-le, drop-append-le}
use Rattle.deciding.proofs.Both.{and_both}
use Rattle.lists.specs.Every.{every}
use Rattle.framing.specs.Toc.{config_of, stereo_of, code_of, by_code, duration}
use Rattle.framing.specs.Lengths.{lengths, widths, length_codes, total}
use Rattle.framing.specs.Padding.{pad_lengths, pad_bytes, pad_code, pad_tail}
use Rattle.framing.specs.declared.Form.{Form}
use Rattle.framing.specs.Form.{counted, plain, form_of, behind, firsts, head, room, sizes, sizes_of, padding, padding_of, cut, frames_of}
use Rattle.framing.specs.Rules.{fits_frame, keeps}
use Rattle.framing.specs.Writing.{but_last, bit, count_byte, laid, alike}
use Rattle.framing.proofs.LengthLaws.{lengths_back, widths_back}
use Rattle.framing.proofs.PaddingLaws.{pad_lengths_back, pad_bytes_back, pad_whole}
use Rattle.framing.proofs.Kept.{KeptBy, kept_keeps, by_code_lem, by_bool, form_0, form_1, form_2, form_3, head_equal, head_varied, firsts_equal, firsts_varied, sizes_equal, sizes_varied}
use Rattle.framing.proofs.Whole.{total_append, total_same}

-- ---- the last size, and sizes that are all one

pub but_last_length : (ns : List ℕ) → length (but_last ns) ≡ length ns - 1
unfolding but_last
but_last_length [] = refl
but_last_length (a ∷ []) = refl
but_last_length (a ∷ (b ∷ r)) = omega (arith, but_last_length (b ∷ r))

-- the last is what the others leave
pub last_left : (ns : List ℕ) → 1 ≤ length ns → but_last ns ++ ((total ns - total (but_last ns)) ∷ []) ≡ ns
unfolding but_last total
last_left [] h = absurd (omega arith)
last_left (a ∷ []) h = let e : a + 0 - 0 ≡ a = omega arith in rw e
last_left (a ∷ (b ∷ r)) h =
    let t = total (b ∷ r) in
    let u = total (but_last (b ∷ r)) in
    let e : a + t - (a + u) ≡ t - u = omega arith in
    ap (λ (n : ℕ). a ∷ (but_last (b ∷ r) ++ (n ∷ []))) e ∙ ap (λ (l : List ℕ). a ∷ l) (last_left (b ∷ r) (omega arith))

same_as : (a : ℕ) (r : List ℕ) → every (λ b. eqb b a) r ≡ true → r ≡ replicate (length r) a
same_as a [] h = refl
same_as a (b ∷ r) h =
    let p = and_both (eqb b a) (every (λ (c : ℕ). eqb c a) r) h in
    ap (λ (x : ℕ). x ∷ r) (eqb-true b a p.0) ∙ ap (λ (l : List ℕ). a ∷ l) (same_as a r p.1)

-- equal sizes are equal shares of their total
pub shared : (ns : List ℕ) → 1 ≤ length ns → alike ns ≡ true
    → (replicate (length ns) (total ns / length ns) ≡ ns) × (total ns % length ns ≡ 0)
unfolding alike
shared [] h e = absurd (omega arith)
shared (a ∷ r) h e =
    let m = suc (length r) in
    let p : a ∷ r ≡ replicate m a = ap (λ (l : List ℕ). a ∷ l) (same_as a r e) in
    let t : total (a ∷ r) ≡ m * a = ap total p ∙ total_same m a in
    let q : total (a ∷ r) / m ≡ a = ap (λ (n : ℕ). n / m) t ∙ mul-div_cancel_left a (omega arith) in
    (ap (λ (n : ℕ). replicate m n) q ∙ sym p, ap (λ (n : ℕ). n % m) t ∙ mul-mod_right m a)

-- what stands behind the parts is not looked at
pub cut_more : (ns a b : List ℕ) → total ns ≤ length a → cut ns (a ++ b) ≡ cut ns a
unfolding cut total
cut_more [] a b h = refl
cut_more (n ∷ ns) a b h =
    let l : n ≤ length a = omega arith in
    ap (λ (x : List ℕ). x ∷ cut ns (drop n (a ++ b))) (take-append-le n a b l)
    ∙ ap (λ (x : List ℕ). take n a ∷ cut ns x) (drop-append-le n a b l)
    ∙ ap (λ (x : List (List ℕ)). take n a ∷ x) (cut_more ns (drop n a) b (omega (arith, length-drop n a)))

-- ---- the form of a laid packet

abbrev pub own_of : ℕ → ℕ
own_of t = by_code (t % 4) 1 1 1 2

abbrev pub form_for : ℕ → Bool → ℕ → List ℕ → Form
form_for t v k ns =
    record { count = length ns; varied = v; own = own_of t; lens = length (pad_code k); pad = pad_tail k }

-- a layout that some packet has
pub record Layout (t : ℕ) (v : Bool) (k : ℕ) (ns frames tail : List ℕ) : Type 0 where
  pub some : 1 ≤ length ns
  pub few : length ns < 64
  pub time : length ns * duration (t / 8) ≤ 1200
  pub small : every fits_frame ns ≡ true
  pub equal : v ≡ false → alike ns ≡ true
  pub bytes : length frames ≡ total ns
  pub ending : length tail ≡ pad_tail k
  pub one : t % 4 ≡ 0 → (length ns ≡ 1) × (v ≡ false) × (k ≡ 0)
  pub pair : t % 4 ≡ 1 → (length ns ≡ 2) × (v ≡ false) × (k ≡ 0)
  pub two : t % 4 ≡ 2 → (length ns ≡ 2) × (v ≡ true) × (k ≡ 0)

bit_most : (t : Bool) → bit t ≤ 1
bit_most true = omega arith
bit_most false = omega arith

bit_is : (t : Bool) → eqb (bit t) 1 ≡ t
bit_is true = refl
bit_is false = refl

made : ℕ → Bool → ℕ → ℕ → ℕ → Form
made n v o l p = record { count = n; varied = v; own = o; lens = l; pad = p }

pad_read : (k : ℕ) (r : List ℕ) (x : ℕ) → x ≡ bit (ltb 0 k)
    → (cond (eqb x 1) (pad_lengths (pad_code k ++ r)) 0 ≡ length (pad_code k)) × (cond (eqb x 1) (pad_bytes (pad_code k ++ r)) 0 ≡ pad_tail k)
unfolding pad_code pad_tail
pad_read zero r x e = (rw e, rw e)
pad_read (suc n) r x e =
    let o : ltb 0 (suc n) ≡ true = lt-ltb 0 (suc n) (omega arith) in
    let q : x ≡ 1 = e ∙ ap bit o in
    (rw q (pad_lengths_back n r), rw q (pad_bytes_back n r))

counted_form : (m : ℕ) (v : Bool) (k : ℕ) (r : List ℕ) → m < 64
    → counted (count_byte m v k) (pad_code k ++ r) ≡ record { count = m; varied = v; own = 2; lens = length (pad_code k); pad = pad_tail k }
unfolding made
counted_form m v k r h =
    let x = bit (ltb 0 k) in
    let y = bit v in
    let b = count_byte m v k in
    let i : x ≤ 1 = bit_most (ltb 0 k) in
    let j : y ≤ 1 = bit_most v in
    let c : b % 64 ≡ m = omega arith in
    let e : b / 128 ≡ y = omega arith in
    let d : b / 128 % 2 ≡ y = ap (λ (n : ℕ). n % 2) e ∙ omega arith in
    let q : b / 64 ≡ x + 2 * y = omega arith in
    let g : b / 64 % 2 ≡ x = ap (λ (n : ℕ). n % 2) q ∙ omega arith in
    let w : eqb (b / 128 % 2) 1 ≡ v = ap (λ (n : ℕ). eqb n 1) d ∙ bit_is v in
    let p = pad_read k r (b / 64 % 2) g in
    ap (λ (n : ℕ). made n (eqb (b / 128 % 2) 1) 2 (counted b (pad_code k ++ r)).lens (counted b (pad_code k ++ r)).pad) c
    ∙ ap (λ (u : Bool). made m u 2 (counted b (pad_code k ++ r)).lens (counted b (pad_code k ++ r)).pad) w
    ∙ ap (λ (l : ℕ). made m v 2 l (counted b (pad_code k ++ r)).pad) p.0
    ∙ ap (λ (l : ℕ). made m v 2 (length (pad_code k)) l) p.1

plain_form : (t : ℕ) (v : Bool) (k : ℕ) (ns : List ℕ) (n : ℕ) (w : Bool) → own_of t ≡ 1 → (length ns ≡ n) × (v ≡ w) × (k ≡ 0)
    → plain n w ≡ form_for t v k ns
unfolding made pad_code pad_tail
plain_form t v k ns n w o h =
    sym
    (ap (λ (m : ℕ). made m v (own_of t) (length (pad_code k)) (pad_tail k)) h.0
    ∙ ap (λ (u : Bool). made n u (own_of t) (length (pad_code k)) (pad_tail k)) h.1
    ∙ ap (λ (m : ℕ). made n w m (length (pad_code k)) (pad_tail k)) o
    ∙ ap (λ (m : ℕ). made n w 1 (length (pad_code m)) (pad_tail m)) h.2)

-- a packet s reads as this: it keeps the rules, and has this first byte, padding, sizes and frames
pub record Reads (s : List ℕ) (t k : ℕ) (ns body : List ℕ) : Type 0 where
  pub rules : keeps s ≡ true
  pub config : config_of s ≡ t / 8
  pub stereo : stereo_of s ≡ t / 4 % 2
  pub code : code_of s ≡ t % 4
  pub sizes : sizes_of s ≡ ns
  pub padding : padding_of s ≡ k
  pub frames : frames_of s ≡ cut ns body

module _ (t : ℕ) (v : Bool) (k : ℕ) (ns frames tail : List ℕ) (y : Layout t v k ns frames tail) where
  front : List ℕ
  front = t ∷ by_code (t % 4) [] [] [] (count_byte (length ns) v k ∷ pad_code k)

  pub codes : List ℕ
  codes = cond v (length_codes (but_last ns)) []

  abbrev s : List ℕ
  s = laid t v k ns frames tail

  abbrev f : Form
  f = form_for t v k ns

  split : s ≡ front ++ (codes ++ (frames ++ tail))
  unfolding laid front codes
  split = refl

  code_is : code_of s ≡ t % 4
  unfolding laid
  code_is = refl

  pub config_is : config_of s ≡ t / 8
  unfolding laid
  config_is = refl

  stereo_is : stereo_of s ≡ t / 4 % 2
  unfolding laid
  stereo_is = refl

  third : t % 4 ≡ 3 → form_of s ≡ f
  unfolding laid
  third e =
      let l : s ≡ t ∷ (count_byte (length ns) v k ∷ (pad_code k ++ (codes' ++ (frames ++ tail)))) = rw e in
      ap form_of l
      ∙ form_3 (t ∷ (count_byte (length ns) v k ∷ (pad_code k ++ (codes' ++ (frames ++ tail))))) e
      ∙ counted_form (length ns) v k (codes' ++ (frames ++ tail)) y.few
      ∙ ap (λ (m : ℕ). record { count = length ns; varied = v; own = m; lens = length (pad_code k); pad = pad_tail k }) (own e)
    where
      codes' : List ℕ
      codes' = cond v (length_codes (but_last ns)) []

      own : t % 4 ≡ 3 → 2 ≡ own_of t
      own e = rw e

  pub laid_form : form_of s ≡ f
  laid_form =
      by_code_lem s
      (λ e. let c : t % 4 ≡ 0 = sym code_is ∙ e in form_0 s e ∙ plain_form t v k ns 1 false (rw c) (y.one c))
      (λ e. let c : t % 4 ≡ 1 = sym code_is ∙ e in form_1 s e ∙ plain_form t v k ns 2 false (rw c) (y.pair c))
      (λ e. let c : t % 4 ≡ 2 = sym code_is ∙ e in form_2 s e ∙ plain_form t v k ns 2 true (rw c) (y.two c))
      (λ e. third (sym code_is ∙ e))

  -- ---- where the frames stand

  front_length : length front ≡ f.own + f.lens
  unfolding front
  front_length =
      by_code_lem s
      (λ e. let c : t % 4 ≡ 0 = sym code_is ∙ e in rw (c, (y.one c).2) (unfold pad_code in omega arith))
      (λ e. let c : t % 4 ≡ 1 = sym code_is ∙ e in rw (c, (y.pair c).2) (unfold pad_code in omega arith))
      (λ e. let c : t % 4 ≡ 2 = sym code_is ∙ e in rw (c, (y.two c).2) (unfold pad_code in omega arith))
      (λ e. let c : t % 4 ≡ 3 = sym code_is ∙ e in rw c (omega arith))

  behind_is : behind f s ≡ codes ++ (frames ++ tail)
  behind_is = ap (λ (l : List ℕ). drop (f.own + f.lens) l) split
      ∙ drop_at front (codes ++ (frames ++ tail)) (f.own + f.lens) front_length

  pub codes_varied : v ≡ true → codes ≡ length_codes (but_last ns)
  unfolding codes
  codes_varied e = rw e

  pub codes_equal : v ≡ false → codes ≡ []
  unfolding codes
  codes_equal e = rw e

  behind_varied : v ≡ true → behind f s ≡ length_codes (but_last ns) ++ (frames ++ tail)
  behind_varied e = behind_is ∙ ap (λ (l : List ℕ). l ++ (frames ++ tail)) (codes_varied e)

  minus : length ns - 1 ≡ length (but_last ns)
  minus = sym (but_last_length ns)

  laid_firsts : v ≡ true → firsts f s ≡ but_last ns
  laid_firsts e =
      firsts_varied f s e
      ∙ ap (λ (l : List ℕ). lengths (length ns - 1) l) (behind_varied e)
      ∙ ap (λ (m : ℕ). lengths m (length_codes (but_last ns) ++ (frames ++ tail))) minus
      ∙ lengths_back (but_last ns) (frames ++ tail)

  laid_head : head f s ≡ f.own + f.lens + length codes
  laid_head =
      by_bool v
      (λ e.
      let w : widths (length ns - 1) (behind f s) ≡ length codes =
      ap (λ (l : List ℕ). widths (length ns - 1) l) (behind_varied e)
      ∙ ap (λ (m : ℕ). widths m (length_codes (but_last ns) ++ (frames ++ tail))) minus
      ∙ widths_back (but_last ns) (frames ++ tail)
      ∙ ap length (sym (codes_varied e)) in
      head_varied f s e ∙ ap (λ (m : ℕ). f.own + f.lens + m) w)
      (λ e. head_equal f s e ∙ omega (arith, ap length (codes_equal e)))

  pub laid_length : length s ≡ head f s + total ns + pad_tail k
  laid_length =
      ap length split
      ∙ omega (
        arith,
        length-append front (codes ++ (frames ++ tail)),
        length-append codes
            (frames ++ tail),
        length-append frames tail,
        front_length,
        laid_head,
        y.bytes,
        y.ending,
      )

  room_is : room f s ≡ total ns
  room_is = omega (arith, laid_length)

  laid_sizes : sizes f s ≡ ns
  laid_sizes =
      by_bool v
      (λ e.
      sizes_varied f s e
      ∙ ap (λ (l : List ℕ). l ++ ((room f s - total l) ∷ [])) (laid_firsts e)
      ∙ ap (λ (m : ℕ). but_last ns ++ ((m - total (but_last ns)) ∷ [])) room_is
      ∙ last_left ns y.some)
      (λ e. sizes_equal f s e ∙ ap (λ (m : ℕ). replicate (length ns) (m / length ns)) room_is ∙ (shared ns y.some (y.equal e)).0)

  firsts_most : total (firsts f s) ≤ total ns
  firsts_most =
      by_bool v
      (λ e.
      let l : total (but_last ns) ≤ total ns =
      omega (arith, ap total (last_left ns y.some), total_append (but_last ns) ((total ns - total (but_last ns)) ∷ [])) in
      omega (arith, ap total (laid_firsts e)))
      (λ e. let z : total (firsts f s) ≡ 0 = ap total (firsts_equal f s e) ∙ (unfold total in refl) in omega arith)

  kept_laid : KeptBy f s
  kept_laid =
      record {
        some = y.some;
        time = subst⁻¹ (λ (c : ℕ). length ns * duration c ≤ 1200) config_is y.time;
        fits = omega (arith, laid_length, firsts_most);
        shares = λ e. ap (λ (m : ℕ). m % length ns) room_is ∙ (shared ns y.some (y.equal e)).1;
        small = ap (λ (l : List ℕ). every fits_frame l) laid_sizes ∙ y.small;
      }

  drop_head : drop (head f s) s ≡ frames ++ tail
  drop_head =
      let e : s ≡ (front ++ codes) ++ (frames ++ tail) = split ∙ sym (append_assoc front codes (frames ++ tail)) in
      ap (λ (l : List ℕ). drop (head f s) l) e
      ∙ drop_at (front ++ codes) (frames ++ tail) (head f s) (omega (arith, length-append front codes, front_length, laid_head))

  pub laid_reads : Reads s t k ns frames
  laid_reads =
      record {
        rules = kept_keeps s (subst⁻¹ (λ (g : Form). KeptBy g s) laid_form kept_laid);
        config = config_is;
        stereo = stereo_is;
        code = code_is;
        sizes = ap (λ (g : Form). sizes g s) laid_form ∙ laid_sizes;
        padding = ap padding laid_form ∙ pad_whole k;
        frames =
            ap (λ (g : Form). cut (sizes g s) (drop (head g s) s)) laid_form
            ∙ ap (λ (l : List ℕ). cut l (drop (head f s) s)) laid_sizes
            ∙ ap (λ (l : List ℕ). cut ns l) drop_head
            ∙ cut_more ns frames tail (omega (arith, y.bytes));
      }

  -- its length
  pub laid_size : length s ≡ own_of t + k + length codes + total ns
  laid_size = omega (arith, laid_length, laid_head, pad_whole k)
