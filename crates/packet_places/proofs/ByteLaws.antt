-- Lengths that are one byte each. Assumes nothing.
use Prim.Native.Nat.{ℕ, zero, suc, ◌+◌, ◌≤◌, ◌<◌}
use mathlib.Core.Path.{◌≡◌, refl, sym, ap, subst, ◌∙◌}
use mathlib.Core.List.{List, [], ◌∷◌, ◌++◌}
use native.Mathlib.Omega.{arith}
use borrow.Author.Tests.{lt-ltb, le-ltb}
use lib.ListN.{length, get_or, drop, length-append, get_or-append}
use lib.Seq.{drop-drop, get_or-drop, get_or-append-add}
use Rattle.deciding.proofs.Choice.{by_lt}
use Rattle.framing.specs.Lengths.{length_of, width_of, lengths, widths}
use Rattle.framing.proofs.LengthLaws.{lengths_count}
use Rattle.packet_next.proofs.NextLaws.{width_some, lengths_at}

widths_least : (n : ℕ) (r : List ℕ) → n ≤ widths n r
unfolding widths
widths_least zero r = omega arith
widths_least (suc n) r = omega (arith, (width_some r).0, widths_least n (drop (width_of r) r))

-- n lengths in n bytes: each is one byte
pub one_byte : (n k : ℕ) (r : List ℕ) → widths n r ≡ n → k < n → (widths k r ≡ k) × (width_of (drop k r) ≡ 1)
unfolding widths
one_byte zero k r e h = absurd (omega arith)
one_byte (suc n) zero r e h = (refl, omega (arith, (width_some r).0, widths_least n (drop (width_of r) r)))
one_byte (suc n) (suc k) r e h =
    let w : width_of r ≡ 1 = omega (arith, (width_some r).0, widths_least n (drop (width_of r) r)) in
    let d : drop (width_of r) r ≡ drop 1 r = ap (λ (i : ℕ). drop i r) w in
    let i = one_byte n k (drop 1 r) (subst (λ (l : List ℕ). widths n l ≡ n) d (omega arith)) (omega arith) in (
      omega (arith, w, ap (λ (l : List ℕ). widths k l) d, i.0),
      ap (λ (j : ℕ). width_of (drop j r)) (one_more k) ∙ ap width_of (sym (drop-drop k 1 r)) ∙ i.1,
    )
  where
    one_more : (k : ℕ) → suc k ≡ 1 + k
    one_more k = omega arith

-- and is that byte
pub its_byte : (r : List ℕ) → width_of r ≡ 1 → length_of r ≡ get_or r 0 0
its_byte r e =
    by_lt (get_or r 0 0) 252 (λ h. rw (lt-ltb (get_or r 0 0) 252 h))
    (λ h. let z : 2 ≡ 1 = rw (le-ltb (get_or r 0 0) 252 h) at e in absurd (omega arith))

-- ---- lengths of one byte each, and the last size

-- the sizes
abbrev pub listed : List ℕ → ℕ → ℕ → ℕ → List ℕ
listed s at n last = lengths n (drop at s) ++ (last ∷ [])

module _ (s : List ℕ) (at n last : ℕ) where
  pub many : length (listed s at n last) ≡ n + 1
  many = omega (arith, length-append (lengths n (drop at s)) (last ∷ []), lengths_count n (drop at s))

  -- the length at place k is its byte
  pub byte : widths n (drop at s) ≡ n → (k : ℕ) → k < n → get_or s (at + k) 0 ≡ get_or (listed s at n last) k 0
  byte e k h =
      let r = drop at s in
      let o = one_byte n k r e h in
      let z : k + 0 ≡ k = omega arith in
      sym (get_or-drop at s k 0)
      ∙ ap (λ (i : ℕ). get_or r i 0) (sym z)
      ∙ sym (get_or-drop k r 0 0)
      ∙ sym (its_byte (drop k r) o.1)
      ∙ ap (λ (i : ℕ). length_of (drop i r)) (sym o.0)
      ∙ sym (lengths_at n k r h)
      ∙ sym (get_or-append (lengths n r) (last ∷ []) 0 k (omega (arith, lengths_count n r)))

  pub behind : last ≡ get_or (listed s at n last) n 0
  behind =
      let r = drop at s in
      let e : length (lengths n r) + 0 ≡ n = omega (arith, lengths_count n r) in
      sym (get_or-append-add (lengths n r) (last ∷ []) 0 0) ∙ ap (λ (i : ℕ). get_or (lengths n r ++ (last ∷ [])) i 0) e
