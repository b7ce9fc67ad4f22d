-- Lengths and padding read one byte after the other, at places of a packet. Assumes nothing.
use Prim.Native.Nat.{ℕ, suc, ◌+◌, ◌-◌, ◌*◌, ◌≤◌, ◌<◌}
use mathlib.Core.Path.{◌≡◌, refl, ap, ◌∙◌}
use mathlib.Core.Bool.{false}
use mathlib.Core.List.{List, [], ◌∷◌}
use native.Mathlib.Omega.{arith}
use borrow.Author.Tests.{lt-ltb, le-ltb, ne_eqb}
use lib.Dec.{eqb}
use lib.ListN.{length, get_or, drop, get_or-eq_default, drop_of_length-le}
use lib.Seq.{get_or-drop, drop-drop, drop-cons}
use Rattle.deciding.proofs.Choice.{by_lt}
use Rattle.framing.specs.Lengths.{length_of, width_of, lengths, widths, total}
use Rattle.framing.specs.Padding.{pad_lengths, pad_bytes}

byte : (s : List ℕ) (at i : ℕ) → get_or (drop at s) i 0 ≡ get_or s (at + i) 0
byte s at i = get_or-drop at s i 0

first : (s : List ℕ) (at : ℕ) → get_or (drop at s) 0 0 ≡ get_or s at 0
first s at = let e : at + 0 ≡ at = omega arith in byte s at 0 ∙ ap (λ (i : ℕ). get_or s i 0) e

-- ---- a length of one byte, of two

pub length_one : (s : List ℕ) (at : ℕ) → get_or s at 0 < 252 → (get_or s at 0 ≡ length_of (drop at s)) × (1 ≡ width_of (drop at s))
length_one s at h = rw (first s at, lt-ltb (get_or s at 0) 252 h) (refl, refl)

pub length_two : (s : List ℕ) (at : ℕ) → 252 ≤ get_or s at 0
    → (4 * get_or s (at + 1) 0 + get_or s at 0 ≡ length_of (drop at s)) × (2 ≡ width_of (drop at s))
length_two s at h = rw (first s at, byte s at 1, le-ltb (get_or s at 0) 252 h) (refl, refl)

-- ---- of n lengths, k of them read, w bytes behind the start

left_one : (k n : ℕ) → k < n → n - k ≡ suc (n - (k + 1))
left_one k n h = omega arith

pub widths_step : (s : List ℕ) (at w k n : ℕ) → k < n
    → widths (n - k) (drop (at + w) s)
    ≡ width_of (drop (at + w) s) + widths (n - (k + 1)) (drop (at + (w + width_of (drop (at + w) s))) s)
unfolding widths
widths_step s at w k n h =
    let r = drop (at + w) s in
    let e : at + w + width_of r ≡ at + (w + width_of r) = omega arith in
    ap (λ (m : ℕ). widths m r) (left_one k n h)
    ∙ ap (λ (l : List ℕ). width_of r + widths (n - (k + 1)) l) (drop-drop (width_of r) (at + w) s ∙ ap (λ (i : ℕ). drop i s) e)

pub lengths_step : (s : List ℕ) (at w k n : ℕ) → k < n
    → total (lengths (n - k) (drop (at + w) s))
    ≡ length_of (drop (at + w) s) + total (lengths (n - (k + 1)) (drop (at + (w + width_of (drop (at + w) s))) s))
unfolding lengths total
lengths_step s at w k n h =
    let r = drop (at + w) s in
    let e : at + w + width_of r ≡ at + (w + width_of r) = omega arith in
    ap (λ (m : ℕ). total (lengths m r)) (left_one k n h)
    ∙ ap (λ (l : List ℕ). length_of r + total (lengths (n - (k + 1)) l)) (drop-drop (width_of r) (at + w) s ∙ ap (λ (i : ℕ). drop i s) e)

-- ---- a length byte of the padding

pub inside : (s : List ℕ) (i : ℕ) → 0 < get_or s i 0 → i < length s
inside s i h = by_lt i (length s) (λ l. l) (λ l. absurd (omega (arith, get_or-eq_default s 0 l)))

pub pad_more : (s : List ℕ) (i : ℕ) → get_or s i 0 ≡ 255
    → (pad_lengths (drop i s) ≡ 1 + pad_lengths (drop (i + 1) s)) × (pad_bytes (drop i s) ≡ 254 + pad_bytes (drop (i + 1) s))
unfolding pad_lengths pad_bytes
pad_more s i e =
    let n : suc i ≡ i + 1 = omega arith in
    let c : drop i s ≡ 255 ∷ drop (i + 1) s =
    drop-cons s i 0 (inside s i (omega arith)) ∙ ap (λ (b : ℕ). b ∷ drop (suc i) s) e ∙ ap (λ (j : ℕ). 255 ∷ drop j s) n in
    rw c (refl, refl)

pub pad_last : (s : List ℕ) (i : ℕ) → (get_or s i 0 ≡ 255 → ⊥) → (pad_lengths (drop i s) ≡ 1) × (pad_bytes (drop i s) ≡ get_or s i 0)
unfolding pad_lengths pad_bytes
pad_last s i h =
    by_lt i (length s)
    (λ l.
    let c : drop i s ≡ get_or s i 0 ∷ drop (suc i) s = drop-cons s i 0 l in
    let e : eqb (get_or s i 0) 255 ≡ false = ne_eqb (get_or s i 0) 255 h in
    rw (c, e) (refl, refl))
    (λ l.
    let c : drop i s ≡ [] = drop_of_length-le s l in
    let z : get_or s i 0 ≡ 0 = get_or-eq_default s 0 l in
    rw (c, z) (refl, refl))
