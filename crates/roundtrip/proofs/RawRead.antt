-- The reader's raw part: the window and the bytes behind it, from the packet's end, are one number; reading n bits takes it apart into these bits and the
-- rest. That the window reads ahead does not matter: it only moves digits. Part 13 of the argument. Assumes nothing.
use Prim.Native.Nat.{ℕ, zero, suc, ◌+◌, ◌-◌, ◌*◌, ◌/◌, ◌%◌, ◌^◌, ◌≤◌, ◌<◌, min}
use mathlib.Core.Path.{◌≡◌, refl, sym, ap, ◌∙◌}
use mathlib.Core.List.{List}
use native.Mathlib.Omega.{arith}
use native.Mathlib.Nat.{mul_assoc, mul_comm, mul-add, div-add-mod, mod-lt}
use lib.Arith.{digits_div, digits_mod}
use lib.Dec.{ltb}
use lib.ListN.{length}
use lib.Pow.{pow-add, pow_pos}
use Rattle.deciding.proofs.Choice.{chosen}
use Rattle.entcode.specs.declared.Dec.{Dec}
use Rattle.entcode.specs.Reader.{last_of, fetch, fetches, fill, raw_val, raw_next, Bytes}
use Rattle.entcode.specs.Inner.Reading.{Core}
use Rattle.entcode.proofs.ReaderLaws.{Filled, fill_kept}
use Rattle.roundtrip.proofs.Digits.{prefix, pow_split}

-- the raw number still ahead of the reader
abbrev pub rest : List ℕ → Dec → ℕ
rest b d = d.window + 2 ^ d.wbits * prefix b (length b - d.endoffs)

-- ---- filling the window keeps it

last_step : (b : List ℕ) (n : ℕ) → prefix b n ≡ 256 * prefix b (n - 1) + last_of b n
last_step b zero = refl
last_step b (suc j) = let e : suc j - 1 ≡ j = omega arith in rw e

rest_fetch : (b : List ℕ) (d : Dec) → d.endoffs ≤ length b → rest b (fetch b d) ≡ rest b d
rest_fetch b d h =
    let n : ℕ = length b - d.endoffs in
    let e : length b - min (suc d.endoffs) (length b) ≡ n - 1 = omega arith in
    rw (e, pow-add 2 d.wbits 8) (omega (arith, ap (λ (x : ℕ). 2 ^ d.wbits * x) (last_step b n)))

rest_fetches : (b : List ℕ) (c : ℕ) (d : Dec) → d.endoffs ≤ length b → rest b (fetches b c d) ≡ rest b d
rest_fetches b zero d h = refl
rest_fetches b (suc c) d h = rest_fetches b c (fetch b d) (omega arith) ∙ rest_fetch b d h

rest_fill : (b : List ℕ) (n : ℕ) (d : Dec) → d.endoffs ≤ length b → rest b (fill b n d) ≡ rest b d
rest_fill b n d h =
    chosen (λ (q : Dec). rest b q ≡ rest b d) (ltb d.wbits n) (λ e. rest_fetches b ((32 - d.wbits) / 8) d h) (λ e. refl)

-- ---- n bits taken from it

drop_number : (w u n X : ℕ) → n ≤ u → w + 2 ^ u * X ≡ w % 2 ^ n + 2 ^ n * (w / 2 ^ n + 2 ^ (u - n) * X)
drop_number w u n X h =
    let q : 2 ^ u * X ≡ 2 ^ n * (2 ^ (u - n) * X) = ap (λ (m : ℕ). m * X) (pow_split u n h) ∙ mul_assoc (2 ^ n) (2 ^ (u - n)) X in
    omega (arith, div-add-mod w (2 ^ n), mul-add (2 ^ n) (w / 2 ^ n) (2 ^ (u - n) * X))

-- the value v and the reader q after n raw bits; the coded part is untouched
pub record RawRead (b : List ℕ) (d : Dec) (n v : ℕ) (q : Dec) : Type 0 where
  pub small : v < 2 ^ n
  pub number : rest b d ≡ v + 2 ^ n * rest b q
  pub rng : q.rng ≡ d.rng
  pub val : q.val ≡ d.val
  pub rem : q.rem ≡ d.rem
  pub offs : q.offs ≡ d.offs
  pub total : q.total ≡ d.total + n

pub raw_read : (b : List ℕ) (n : ℕ) (d : Dec) → Bytes b → Core b d → n ≤ 25 → RawRead b d n (raw_val b n d) (raw_next b n d)
raw_read b n d y c h =
    let f : Filled b n d (fill b n d) = fill_kept b n d y c h in
    let p = f.kept in
    let q = fill b n d in
    record {
      small = mod-lt q.window (pow_pos n);
      number = sym (rest_fill b n d c.back) ∙ drop_number q.window q.wbits n (prefix b (length b - q.endoffs)) f.enough;
      rng = p.rng;
      val = p.val;
      rem = p.rem;
      offs = p.offs;
      total = ap (λ (m : ℕ). m + n) p.total;
    }

-- ---- two digits to the base p are told apart

pub split_low : (p a x c y : ℕ) → a < p → c < p → a + p * x ≡ c + p * y → a ≡ c
split_low p a x c y ha hc e =
    sym (digits_mod x ha) ∙ ap (λ (n : ℕ). n % p) (omega (arith, mul_comm p x, mul_comm p y)) ∙ digits_mod y hc

pub split_high : (p a x c y : ℕ) → a < p → c < p → a + p * x ≡ c + p * y → x ≡ y
split_high p a x c y ha hc e =
    sym (digits_div x ha) ∙ ap (λ (n : ℕ). n / p) (omega (arith, mul_comm p x, mul_comm p y)) ∙ digits_div y hc
