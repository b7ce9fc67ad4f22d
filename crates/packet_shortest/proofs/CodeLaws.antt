-- Written lengths, one after the other, and their bytes. Assumes nothing.
use Prim.Native.Nat.{ℕ, suc, ◌+◌, ◌-◌, ◌/◌, ◌%◌, ◌≤◌, ◌<◌}
use mathlib.Core.Path.{◌≡◌, refl, sym, ap, ◌∙◌}
use mathlib.Core.Bool.{true, false}
use mathlib.Core.List.{List, [], ◌∷◌, ◌++◌, append-nil, append_assoc}
use native.Mathlib.Omega.{arith}
use borrow.Author.Tests.{lt-ltb, le-ltb}
use lib.Dec.{ltb}
use lib.ListN.{length, get_or, take, length-append}
use lib.Seq.{take-suc}
use Rattle.framing.specs.Lengths.{length_code, length_codes, total}
use Rattle.framing.specs.Writing.{but_last, alike, bare}
use Rattle.framing.proofs.Kept.{by_bool}
use Rattle.framing.proofs.Laid.{but_last_length}
use Rattle.framing.proofs.Shortest.{bare_alike, bare_varied}
use Rattle.packet_shortest.specs.Inner.{codes_of}

-- ---- written lengths

pub code_short : (n : ℕ) → n < 252 → n ∷ [] ≡ length_code n
unfolding length_code
code_short n h = rw (lt-ltb n 252 h)

pub code_long : (n : ℕ) → 252 ≤ n → (252 + n % 4) ∷ (((n - (252 + n % 4)) / 4) ∷ []) ≡ length_code n
unfolding length_code
code_long n h = rw (le-ltb n 252 h)

codes_snoc : (a : List ℕ) (x : ℕ) → length_codes (a ++ (x ∷ [])) ≡ length_codes a ++ length_code x
unfolding length_codes
codes_snoc [] x = append-nil (length_code x)
codes_snoc (b ∷ a) x = ap (λ (l : List ℕ). length_code b ++ l) (codes_snoc a x)
    ∙ sym (append_assoc (length_code b) (length_codes a) (length_code x))

pub codes_more : (ns : List ℕ) (k : ℕ) → k < length ns → codes_of ns k ++ length_code (get_or ns k 0) ≡ codes_of ns (k + 1)
codes_more ns k h =
    let n : suc k ≡ k + 1 = omega arith in
    sym (ap (λ (j : ℕ). codes_of ns j) (sym n) ∙ ap length_codes (take-suc ns k 0 h) ∙ codes_snoc (take k ns) (get_or ns k 0))

-- ---- widths

pub width_more : (ns : List ℕ) (k w : ℕ) → k < length ns → w ≡ length (length_code (get_or ns k 0))
    → length (codes_of ns (k + 1)) ≡ length (codes_of ns k) + w
width_more ns k w h e =
    sym (ap length (codes_more ns k h)) ∙ length-append (codes_of ns k) (length_code (get_or ns k 0))
    ∙ ap (λ (j : ℕ). length (codes_of ns k) + j) (sym e)

pub but_last_take : (ns : List ℕ) → but_last ns ≡ take (length ns - 1) ns
unfolding but_last
but_last_take [] = refl
but_last_take (a ∷ []) = refl
but_last_take (a ∷ (b ∷ r)) =
    let e : suc (suc (length r)) - 1 ≡ suc (length (b ∷ r) - 1) = omega arith in
    ap (λ (l : List ℕ). a ∷ l) (but_last_take (b ∷ r)) ∙ ap (λ (n : ℕ). take n (a ∷ (b ∷ r))) (sym e)

pub alike_some : (ns : List ℕ) → alike ns ≡ false → 1 ≤ length ns
unfolding alike
alike_some [] e = absurd (go e)
  where
    go : true ≡ false → ⊥
    go q = mathlib.Core.Bool.true≢false q
alike_some (a ∷ r) e = omega arith

code_least : (n : ℕ) → 1 ≤ length (length_code n)
unfolding length_code
code_least n = by_bool (ltb n 252) (λ t. rw t (omega arith)) (λ t. rw t (omega arith))

codes_least : (ns : List ℕ) → length ns ≤ length (length_codes ns)
unfolding length_codes
codes_least [] = omega arith
codes_least (n ∷ ns) = omega (arith, code_least n, length-append (length_code n) (length_codes ns), codes_least ns)

pub width_none : (ns : List ℕ) → alike ns ≡ true → 0 + total ns ≡ bare ns
width_none ns e = omega (arith, bare_alike ns e)

pub width_some : (ns : List ℕ) (w : ℕ) → alike ns ≡ false → w ≡ length (codes_of ns (length ns - 1)) → w + total ns ≡ bare ns
width_some ns w e h = omega (arith, bare_varied ns e, ap (λ (l : List ℕ). length (length_codes l)) (but_last_take ns))

pub width_many : (ns : List ℕ) → alike ns ≡ false → 16384 < length ns → 16384 ≤ bare ns
width_many ns e h = omega (arith, bare_varied ns e, codes_least (but_last ns), but_last_length ns)
