-- A written length reads back, and a length that was read is written by the same bytes. Assumes nothing.
use Prim.Native.Nat.{ℕ, zero, suc, ◌+◌, ◌-◌, ◌*◌, ◌/◌, ◌%◌, ◌≤◌, ◌<◌}
use mathlib.Core.Path.{◌≡◌, refl, sym, ap, ◌∙◌}
use mathlib.Core.Bool.{true}
use mathlib.Core.List.{List, [], ◌∷◌, ◌++◌, append_assoc}
use native.Mathlib.Omega.{arith}
use borrow.Author.Tests.{lt-ltb, le-ltb, le-leb}
use lib.Dec.{leb}
use lib.ListN.{length, get_or, take, drop, length-append, length-drop}
use lib.Seq.{drop-append_seam, take-add}
use Rattle.deciding.proofs.Both.{both_and}
use Rattle.deciding.proofs.Choice.{chosen_lt, by_lt}
use Rattle.lists.specs.Every.{every}
use Rattle.lists.specs.AtMost.{AtMost}
use Rattle.framing.specs.Lengths.{length_of, width_of, lengths, widths, length_code, length_codes}
use Rattle.framing.specs.Rules.{fits_frame}

-- ---- written, then read

pub length_back : (n : ℕ) (r : List ℕ) → length_of (length_code n ++ r) ≡ n
unfolding length_code
length_back n r =
    chosen_lt (λ (c : List ℕ). length_of (c ++ r) ≡ n) n 252 (λ h. rw (lt-ltb n 252 h))
    (λ h. rw (le-ltb (252 + n % 4) 252 (omega arith)) (omega arith))

pub width_back : (n : ℕ) (r : List ℕ) → width_of (length_code n ++ r) ≡ length (length_code n)
unfolding length_code
width_back n r =
    chosen_lt (λ (c : List ℕ). width_of (c ++ r) ≡ length c) n 252 (λ h. rw (lt-ltb n 252 h))
    (λ h. rw (le-ltb (252 + n % 4) 252 (omega arith)))

-- two bytes exactly from 252 on
pub code_one : (n : ℕ) → n < 252 → length (length_code n) ≡ 1
unfolding length_code
code_one n h = rw (lt-ltb n 252 h)

pub code_two : (n : ℕ) → 252 ≤ n → length (length_code n) ≡ 2
unfolding length_code
code_two n h = rw (le-ltb n 252 h)

pub code_bytes : (n : ℕ) → n ≤ 1275 → AtMost 255 (length_code n)
unfolding length_code
code_bytes n l i =
    chosen_lt (λ (c : List ℕ). get_or c i 0 ≤ 255) n 252 (λ h. single n i (omega arith)) (λ h. pair _ _ i (omega arith) (omega arith))
  where
    single : (a i : ℕ) → a ≤ 255 → get_or (a ∷ []) i 0 ≤ 255
    single a zero h = h
    single a (suc i) h = omega arith

    pair : (a b i : ℕ) → a ≤ 255 → b ≤ 255 → get_or (a ∷ (b ∷ [])) i 0 ≤ 255
    pair a b zero h g = h
    pair a b (suc i) h g = single b i g

-- what stands behind a length
skip : (n : ℕ) (r : List ℕ) → drop (width_of (length_code n ++ r)) (length_code n ++ r) ≡ r
skip n r = ap (λ (k : ℕ). drop k (length_code n ++ r)) (width_back n r) ∙ drop-append_seam (length_code n) r

skipped : (n : ℕ) (c r : List ℕ) → drop (width_of ((length_code n ++ c) ++ r)) ((length_code n ++ c) ++ r) ≡ c ++ r
skipped n c r = rw (append_assoc (length_code n) c r) (skip n (c ++ r))

pub lengths_back : (ns r : List ℕ) → lengths (length ns) (length_codes ns ++ r) ≡ ns
unfolding lengths length_codes
lengths_back [] r = refl
lengths_back (n ∷ ns) r =
    let c = length_codes ns in
    let e : length_of ((length_code n ++ c) ++ r) ≡ n = ap length_of (append_assoc (length_code n) c r) ∙ length_back n (c ++ r) in
    ap (λ (m : ℕ). m ∷ lengths (length ns) (drop (width_of ((length_code n ++ c) ++ r)) ((length_code n ++ c) ++ r))) e
    ∙ ap (λ (l : List ℕ). n ∷ lengths (length ns) l) (skipped n c r)
    ∙ ap (λ (l : List ℕ). n ∷ l) (lengths_back ns r)

pub widths_back : (ns r : List ℕ) → widths (length ns) (length_codes ns ++ r) ≡ length (length_codes ns)
unfolding widths length_codes
widths_back [] r = refl
widths_back (n ∷ ns) r =
    let c = length_codes ns in
    let w : width_of ((length_code n ++ c) ++ r) ≡ length (length_code n) =
    ap width_of (append_assoc (length_code n) c r) ∙ width_back n (c ++ r) in
    let d : widths (length ns) (drop (width_of ((length_code n ++ c) ++ r)) ((length_code n ++ c) ++ r)) ≡ length c =
    ap (λ (l : List ℕ). widths (length ns) l) (skipped n c r) ∙ widths_back ns r in
    omega (arith, w, d, length-append (length_code n) c)

-- ---- read, then written

pub lengths_count : (n : ℕ) (r : List ℕ) → length (lengths n r) ≡ n
unfolding lengths
lengths_count zero r = refl
lengths_count (suc n) r = ap suc (lengths_count n (drop (width_of r) r))

-- what was read is written in the same bytes, where all of them are there
two : (r : List ℕ) → 2 ≤ length r → get_or r 0 0 ∷ (get_or r 1 0 ∷ []) ≡ take 2 r
two [] h = absurd (omega arith)
two (a ∷ []) h = absurd (omega arith)
two (a ∷ (b ∷ r)) h = refl

one : (r : List ℕ) → 1 ≤ length r → get_or r 0 0 ∷ [] ≡ take 1 r
one [] h = absurd (omega arith)
one (a ∷ r) h = refl

pub code_again : (r : List ℕ) → AtMost 255 r → width_of r ≤ length r → length_code (length_of r) ≡ take (width_of r) r
unfolding length_code
code_again r y w =
    let b = get_or r 0 0 in
    let c = get_or r 1 0 in
    by_lt b 252
    (λ h. let g : 1 ≤ length r = rw (lt-ltb b 252 h) at w in rw (lt-ltb b 252 h, lt-ltb b 252 h) (one r g))
    (λ h.
    let g : 2 ≤ length r = rw (le-ltb b 252 h) at w in
    let q : 252 ≤ 4 * c + b = omega arith in
    let i : 252 + (4 * c + b) % 4 ≡ b = omega (arith, y 0) in
    let j : (4 * c + b - b) / 4 ≡ c = omega arith in
    rw (le-ltb b 252 h, le-ltb (4 * c + b) 252 q, i, j) (two r g))

pub at_most_drop : (k : ℕ) (r : List ℕ) → AtMost 255 r → AtMost 255 (drop k r)
at_most_drop zero r y i = y i
at_most_drop (suc k) [] y i = y i
at_most_drop (suc k) (a ∷ r) y i = at_most_drop k r (λ j. y (suc j)) i

pub codes_again : (n : ℕ) (r : List ℕ) → AtMost 255 r → widths n r ≤ length r → length_codes (lengths n r) ≡ take (widths n r) r
unfolding lengths widths length_codes
codes_again zero r y h = refl
codes_again (suc n) r y h =
    let d = drop (width_of r) r in
    let a : length_code (length_of r) ≡ take (width_of r) r = code_again r y (omega arith) in
    let b : length_codes (lengths n d) ≡ take (widths n d) d =
    codes_again n d (at_most_drop (width_of r) r y) (omega (arith, length-drop (width_of r) r)) in
    rw (a, b) (sym (take-add (width_of r) (widths n d) r))

-- a written length is at most 1,275
length_most : (r : List ℕ) → AtMost 255 r → length_of r ≤ 1275
length_most r y = chosen_lt (λ (n : ℕ). n ≤ 1275) (get_or r 0 0) 252 (λ h. omega arith) (λ h. omega (arith, y 0, y 1))

pub lengths_most : (n : ℕ) (r : List ℕ) → AtMost 255 r → every fits_frame (lengths n r) ≡ true
unfolding lengths
lengths_most zero r y = refl
lengths_most (suc n) r y =
    both_and (leb (length_of r) 1275) (every fits_frame (lengths n (drop (width_of r) r))) (le-leb _ _ (length_most r y))
    (lengths_most n (drop (width_of r) r) (at_most_drop (width_of r) r y))
