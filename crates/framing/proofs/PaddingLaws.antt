-- Written padding reads back, and padding that was read is written by the same length bytes. Assumes nothing.
use Prim.Native.Nat.{ℕ, zero, suc, ◌+◌, ◌-◌, ◌*◌, ◌/◌, ◌%◌, ◌≤◌, ◌<◌}
use mathlib.Core.Path.{◌≡◌, refl, sym, ap, ◌∙◌}
use mathlib.Core.Bool.{Bool, true, false}
use mathlib.Core.List.{List, [], ◌∷◌, ◌++◌}
use native.Mathlib.Omega.{arith}
use borrow.Author.Tests.{ne_eqb, eqb-true, eqb-false}
use lib.Dec.{eqb}
use lib.Seq.{length-take-le}
use lib.ListN.{length, take, replicate, length-append, length-replicate}
use Rattle.deciding.proofs.Choice.{chosen}
use Rattle.lists.specs.AtMost.{AtMost}
use Rattle.framing.specs.Padding.{pad_lengths, pad_bytes, pad_code, pad_tail}

-- ---- written, then read

runs : (j b : ℕ) (r : List ℕ) → b < 255
    → (pad_lengths ((replicate j 255 ++ (b ∷ [])) ++ r) ≡ j + 1) × (pad_bytes ((replicate j 255 ++ (b ∷ [])) ++ r) ≡ 254 * j + b)
unfolding pad_lengths pad_bytes
runs zero b r h = let e : eqb b 255 ≡ false = ne_eqb b 255 (λ q. omega arith) in (rw e, rw e (omega arith))
runs (suc j) b r h = let i = runs j b r h in (omega (arith, i.0), omega (arith, i.1))

pub code_length : (n : ℕ) → length (pad_code (suc n)) ≡ n / 255 + 1
unfolding pad_code
code_length n = omega (arith, length-append (replicate (n / 255) 255) ((n % 255) ∷ []), length-replicate {A = ℕ} (n / 255) 255)

pub pad_lengths_back : (n : ℕ) (r : List ℕ) → pad_lengths (pad_code (suc n) ++ r) ≡ length (pad_code (suc n))
unfolding pad_code
pad_lengths_back n r = (runs (n / 255) (n % 255) r (omega arith)).0 ∙ sym (code_length n)

pub pad_bytes_back : (n : ℕ) (r : List ℕ) → pad_bytes (pad_code (suc n) ++ r) ≡ pad_tail (suc n)
unfolding pad_code pad_tail
pad_bytes_back n r = (runs (n / 255) (n % 255) r (omega arith)).1 ∙ omega arith

-- k bytes in all
pub pad_whole : (k : ℕ) → length (pad_code k) + pad_tail k ≡ k
pad_whole zero = unfold pad_code pad_tail in refl
pad_whole (suc n) = unfold pad_tail in omega (arith, code_length n)

-- ---- read, then written

pub some_lengths : (r : List ℕ) → 1 ≤ pad_lengths r
unfolding pad_lengths
some_lengths [] = omega arith
some_lengths (b ∷ r) = chosen (λ (n : ℕ). 1 ≤ n) (eqb b 255) (λ e. omega arith) (λ e. omega arith)

code_more : (n : ℕ) → pad_code (suc (255 + n)) ≡ 255 ∷ pad_code (suc n)
unfolding pad_code
code_more n =
    let q : (255 + n) / 255 ≡ suc (n / 255) = omega arith in
    let m : (255 + n) % 255 ≡ n % 255 = omega arith in
    rw (q, m)

code_one : (b : ℕ) → b < 255 → pad_code (suc b) ≡ b ∷ []
unfolding pad_code
code_one b h =
    let q : b / 255 ≡ 0 = omega arith in
    let m : b % 255 ≡ b = omega arith in
    rw (q, m)

pub pad_again : (r : List ℕ) → AtMost 255 r → pad_lengths r ≤ length r → pad_code (pad_lengths r + pad_bytes r) ≡ take (pad_lengths r) r
unfolding pad_lengths pad_bytes
pad_again [] y h = absurd (omega arith)
pad_again (b ∷ r) y h = go (eqb b 255) refl (λ i. pad_again r (λ j. y (suc j)) i)
  where
    go : (t : Bool) → eqb b 255 ≡ t → (pad_lengths r ≤ length r → pad_code (pad_lengths r + pad_bytes r) ≡ take (pad_lengths r) r)
        → pad_code (pad_lengths (b ∷ r) + pad_bytes (b ∷ r)) ≡ take (pad_lengths (b ∷ r)) (b ∷ r)
    go true e f =
        let l = pad_lengths r in
        let w : 1 + l ≡ suc l = omega arith in
        let g : l ≤ length r = omega (arith, rw e at h) in
        let k : 1 + l + (254 + pad_bytes r) ≡ suc (255 + (l + pad_bytes r - 1)) = omega (arith, some_lengths r) in
        let m : suc (l + pad_bytes r - 1) ≡ l + pad_bytes r = omega (arith, some_lengths r) in
        let q : b ≡ 255 = eqb-true b 255 e in
        rw (e, k) (code_more (l + pad_bytes r - 1) ∙ rw (m, w, q) (ap (λ (z : List ℕ). 255 ∷ z) (f g)))
    go false e f =
        let l : b < 255 = omega (arith, y 0, eqb-false b 255 e) in
        let w : 1 + b ≡ suc b = omega arith in
        rw (e, w) (code_one b l)

pub tail_again : (r : List ℕ) → AtMost 255 r → pad_lengths r ≤ length r → pad_tail (pad_lengths r + pad_bytes r) ≡ pad_bytes r
tail_again r y h =
    let k = pad_lengths r + pad_bytes r in
    let e : length (pad_code k) ≡ pad_lengths r = ap length (pad_again r y h) ∙ length-take-le (pad_lengths r) r h in
    omega (arith, pad_whole k, e)
