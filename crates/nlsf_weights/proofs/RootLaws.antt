-- The root of a number x 2^16, by the number's own bit length. Assumes nothing.
use Prim.Native.Nat.{ℕ, ◌+◌, ◌-◌, ◌*◌, ◌/◌, ◌%◌, ◌^◌, ◌≤◌, ◌<◌}
use mathlib.Core.Path.{◌≡◌, sym, ap, ap₂, ◌∙◌}
use mathlib.Core.Bool.{Bool, true, false, cond}
use native.Mathlib.Nat.{mul-div-mul_right, div-le_self, mul-le-mul, le_trans}
use native.Mathlib.Omega.{arith}
use lib.Dec.{eqb, lit<}
use lib.Pow.{pow-add, pow_mono}
use Rattle.bitlen.specs.Length.{bit_length}
use Rattle.bitlen.proofs.LengthLaws.{length_pow}
use Rattle.sheet.specs.Weights.{root_at}
use Rattle.nlsf_weights.specs.Inner.{start_of}

-- ---- bit lengths

pub length_few : (s : ℕ) → s ≤ 2048 → bit_length s ≤ 12
length_few s h =
    let p = (length_pow s (omega arith)).1 in
    let more : 13 ≤ bit_length s → ⊥ = λ g. omega (arith, p, pow_mono g) in
    omega (arith, more)

-- no other power of two lies there
length_is : (n i : ℕ) → n < 2 ^ 32 → n < 2 ^ i → 2 ^ i ≤ 2 * n + 1 → bit_length n ≡ i
length_is n i h a b =
    let p = length_pow n h in
    let l = bit_length n in
    let less : l < i → ⊥ = λ g. omega (arith, p.0, b, pow-add 2 l 1, pow_mono {i = l + 1} {j = i} (omega arith)) in
    let more : i < l → ⊥ = λ g. omega (arith, p.1, a, pow-add 2 i 1, pow_mono {i = i + 1} {j = l} (omega arith)) in
    omega (arith, less, more)

shifted : (s : ℕ) → 1 ≤ s → s ≤ 2048 → bit_length (s * 2 ^ 16) ≡ bit_length s + 16
shifted s a h =
    let l = bit_length s in
    let p = length_pow s (omega arith) in
    let none : l ≡ 0 → ⊥ = λ e. omega (arith, rw e at p.0) in
    let some : 1 ≤ l = omega (arith, none) in
    let e : 2 ^ l ≡ 2 ^ (l - 1) * 2 = ap (λ (n : ℕ). 2 ^ n) (omega arith) ∙ pow-add 2 (l - 1) 1 in
    length_is (s * 2 ^ 16) (l + 16) (omega arith) (omega (arith, p.0, pow-add 2 l 16)) (omega (arith, p.1, e, pow-add 2 l 16))

-- ---- the root

picked : (b : Bool) → cond b 32768 46214 ≤ 46214
picked true = omega arith
picked false = omega arith

pub start_small : (i : ℕ) → start_of i ≤ 46214
start_small i =
    let y : ℕ = cond (eqb (i % 2) 1) 32768 46214 in
    le_trans (div-le_self y (2 ^ ((16 - i) / 2))) (picked (eqb (i % 2) 1))

-- the line's product fits
pub line_small : (f y : ℕ) → f < 128 → y ≤ 46214 → 213 * f * y ≤ 1250134914
line_small f y h k = mul-le-mul {n₁ = 213 * f} {m₁ = y} {n₂ = 27051} {m₂ = 46214} (omega arith) k

module _ (s : ℕ) (a : 1 ≤ s) (h : s ≤ 2048) where
  digits : s * 2 ^ 16 / 2 ^ (bit_length s + 16 - 8) ≡ s * 2 ^ 8 / 2 ^ bit_length s
  digits =
      let l = bit_length s in
      let e : l + 16 - 8 ≡ l + 8 = omega arith in
      let n : s * 2 ^ 16 ≡ s * 2 ^ 8 * 2 ^ 8 = omega arith in
      ap₂ (λ (x y : ℕ). x / y) n (ap (λ (k : ℕ). 2 ^ k) e ∙ pow-add 2 l 8) ∙ mul-div-mul_right (s * 2 ^ 8) (2 ^ l) (lit< tt)

  start : cond (eqb ((bit_length s + 16) % 2) 1) 32768 46214 / 2 ^ ((32 - (bit_length s + 16)) / 2) ≡ start_of (bit_length s)
  start =
      let l = bit_length s in
      let o : (l + 16) % 2 ≡ l % 2 = omega arith in
      let t : (32 - (l + 16)) / 2 ≡ (16 - l) / 2 = omega arith in
      ap₂ (λ (n k : ℕ). cond (eqb n 1) 32768 46214 / 2 ^ k) o t

  pub root_is : let y = start_of (bit_length s) in
      y + 213 * (s * 2 ^ 8 / 2 ^ bit_length s % 128) * y / 2 ^ 16 ≡ root_at (s * 2 ^ 16) (bit_length (s * 2 ^ 16))
  unfolding root_at
  root_is =
      ap₂ (λ (y q : ℕ). y + 213 * (q % 128) * y / 2 ^ 16) (sym start) (sym digits)
      ∙ sym (ap (root_at (s * 2 ^ 16)) (shifted s a h))
