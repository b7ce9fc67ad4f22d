-- The parts of the range that the code computes for a symbol are those of its model. Assumes nothing.
use Rattle.std.proofs.Common.{◌≡◌, ℕ, zero, suc, ◌+◌, ◌-◌, ◌*◌, ◌/◌, ◌%◌, ◌^◌, ◌<◌, ◌≤◌, List, get_or, sym, refl, ap, mod-lt, mul-le-mul_left, div-mul-le_self, add-one, arith, pow_pos, pow_mono}
use lib.Pow.{shr_mono}
use Rattle.bitlen.specs.Length.{bit_length}
use Rattle.bitlen.proofs.LengthLaws.{length_most, length_pow}
use Rattle.bitlen.proofs.Shift.{one_shl}
use Rattle.icdf.specs.Rule.{Icdf}
use Rattle.icdf.proofs.RuleLaws.{entry_below}
use Rattle.entcode.specs.Models.{bit, num, tab, raw_bits, Allowed}
use Rattle.entcode.specs.Cuts.{upper, lower}
use Rattle.entcode.proofs.ModelLaws.{proper, num_small, bit_upper, bit_lower, bit_whole, tab_upper, tab_lower}
use Rattle.entcode.specs.Inner.Reading.{CutOk, top_of}
use Rattle.entcode.proofs.CutLaws.{cut_ok}
use Rattle.entcode.specs.Flat.{Out}
use Rattle.entcode.proofs.FlatLaws.{tab_first, tab_later, num_is}
use Rattle.entcode.specs.Inner.Writing.{Stepped, cut, appended}
use Rattle.entcode.specs.Writing.{written}

-- ---- a bit

pub bit_of : (v : ℕ) → v ≤ 1 → (v ≡ 0 → ⊥) → v ≡ 1
bit_of zero h n = absurd (n refl)
bit_of (suc zero) h n = refl
bit_of (suc (suc v)) h n = absurd (omega arith)

pub zero_cut : (R lp : ℕ) → 2 ^ 23 < R → Allowed (bit lp) 0 → CutOk R R (R / 2 ^ lp)
zero_cut R lp h a = rw (bit_lower R lp) at (cut_ok R 0 (2 ^ lp - 1) (2 ^ lp) h (proper (bit lp) 0 a))

pub one_cut : (R lp : ℕ) → 2 ^ 23 < R → Allowed (bit lp) 1 → CutOk R (R / 2 ^ lp) 0
one_cut R lp h a =
    rw (bit_upper R lp a.readable.0, bit_whole R lp) at (cut_ok R (2 ^ lp - 1) (2 ^ lp) (2 ^ lp) h (proper (bit lp) 1 a))

-- ---- a table's symbol

-- an entry times the unit is at most the range
pub entry_most : (R scale x : ℕ) → x < 2 ^ scale → R / 2 ^ scale * x ≤ R
entry_most R scale x h =
    let l : x ≤ 2 ^ scale = omega arith in
    let m : R / 2 ^ scale * x ≤ R / 2 ^ scale * 2 ^ scale = mul-le-mul_left (R / 2 ^ scale) l in
    omega (arith, div-mul-le_self R (2 ^ scale))

-- its upper end, as the code computes it
pub later_top : (R unit k : ℕ) (t : List ℕ) → (k ≡ 0 → ⊥) → unit * get_or t (k - 1) 0 ≡ top_of R unit t k
later_top R unit zero t z = absurd (z refl)
later_top R unit (suc j) t z = let e : suc j - 1 ≡ j = omega arith in ap (λ (x : ℕ). unit * get_or t x 0) e

pub symbol_cut : (R scale k : ℕ) (t : List ℕ) → 2 ^ 23 < R → Allowed (tab scale t) k
    → CutOk R (top_of R (R / 2 ^ scale) t k) (R / 2 ^ scale * get_or t k 0)
symbol_cut R scale zero t h a =
    rw (tab_lower R scale (get_or t 0 0) (entry_below scale t a.readable 0))
    at (cut_ok R 0 (2 ^ scale - get_or t 0 0) (2 ^ scale) h (proper (tab scale t) 0 a))
symbol_cut R scale (suc j) t h a =
    let b = entry_below scale t a.readable in
    rw (tab_lower R scale (get_or t (suc j) 0) (b (suc j)), tab_upper R scale (get_or t j 0) (b j))
    at (cut_ok R (2 ^ scale - get_or t j 0) (2 ^ scale - get_or t (suc j) 0) (2 ^ scale) h (proper (tab scale t) (suc j) a))

pub symbol_is : (o : Out) (scale k : ℕ) (t : List ℕ) → Icdf scale t → o.state.wbits ≤ 32
    → cut o (top_of o.state.rng (o.state.rng / 2 ^ scale) t k) (o.state.rng / 2 ^ scale * get_or t k 0)
    ≡ written o (record { model = tab scale t; value = k })
symbol_is o scale zero t i u = sym (tab_first o scale t (entry_below scale t i 0) u)
symbol_is o scale (suc j) t i u = sym (tab_later o scale t j (entry_below scale t i j) (entry_below scale t i (suc j)) u)

-- ---- one of ft equal parts

-- its ends, as the code computes them
pub part_lower : (R c ft : ℕ) → R / ft * (ft - (c + 1)) ≡ lower R (suc c) ft
part_lower R c ft = let e : ft - (c + 1) ≡ ft - suc c = omega arith in ap (λ (x : ℕ). R / ft * x) e

pub part_cut : (R c ft : ℕ) → 2 ^ 23 < R → c < ft → ft ≤ 256 → CutOk R (upper R c ft) (lower R (suc c) ft)
part_cut R c ft h l m = cut_ok R c (suc c) ft h (record { below = omega arith; within = l; small = omega arith })

-- other words for the ends of a cut
pub ends_cut : (R t s x y : ℕ) → t ≡ x → s ≡ y → CutOk R x y → CutOk R t s
ends_cut R t s x y p q k = rw (p, q) k

pub ends_stepped : (o q : Out) (t s x y : ℕ) → t ≡ x → s ≡ y → Stepped 16 o (cut o t s) q → Stepped 16 o (cut o x y) q
ends_stepped o q t s x y p q' k = rw (p, q') at k

-- ---- a number below ft, with d binary digits in ft - 1

pub number_is : (o : Out) (ft v d : ℕ) → d ≡ bit_length (ft - 1)
    → appended
    (cut o (upper o.state.rng (v / 2 ^ (d - 8)) ((ft - 1) / 2 ^ (d - 8) + 1))
    (lower o.state.rng (suc (v / 2 ^ (d - 8))) ((ft - 1) / 2 ^ (d - 8) + 1)))
    (d - 8) (v % (1 * 2 ^ (d - 8) % 2 ^ 32))
    ≡ written o (record { model = num ft; value = v })
number_is o ft v d e =
    let k : d - 8 ≡ raw_bits ft = ap (λ (x : ℕ). x - 8) e in
    let n : 1 * 2 ^ raw_bits ft % 2 ^ 32 ≡ 2 ^ raw_bits ft = one_shl (raw_bits ft) (omega (arith, length_most (ft - 1))) in
    rw (k, n, add-one) (num_is o ft v)

pub record NumberPart (ft v d : ℕ) : Type 0 where
  pub few : d - 8 ≤ 24
  pub small : (ft - 1) / 2 ^ (d - 8) + 1 ≤ 256
  pub below : v / 2 ^ (d - 8) < (ft - 1) / 2 ^ (d - 8) + 1
  pub mask : 1 * 2 ^ (d - 8) % 2 ^ 32 ≡ 2 ^ (d - 8)
  pub rest : v % (1 * 2 ^ (d - 8) % 2 ^ 32) < 2 ^ (d - 8)

pub number_part : (ft v d : ℕ) → d ≡ bit_length (ft - 1) → 2 ≤ ft → ft < 2 ^ 32 → v < ft → NumberPart ft v d
number_part ft v d e a b h =
    let k : d - 8 ≡ raw_bits ft = ap (λ (x : ℕ). x - 8) e in
    let f : d - 8 ≤ 24 = omega (arith, length_most (ft - 1)) in
    let s : (ft - 1) / 2 ^ (d - 8) < 256 = rw k (num_small ft (omega arith) b) in
    let m : 1 * 2 ^ (d - 8) % 2 ^ 32 ≡ 2 ^ (d - 8) = one_shl (d - 8) (omega arith) in
    record {
      few = f;
      small = omega arith;
      below = omega (arith, shr_mono {a = v} {b = ft - 1} (d - 8) (omega arith));
      mask = m;
      rest = rw m (mod-lt v (pow_pos (d - 8)));
    }

-- eight digits or fewer: all of the number is coded
pub number_few : (ft d : ℕ) → d ≡ bit_length (ft - 1) → d ≤ 8 → ft < 2 ^ 32 → (ft ≤ 256) × (raw_bits ft ≡ 0)
number_few ft d e h b =
    let l : bit_length (ft - 1) ≤ 8 = omega arith in
    let p : 2 ^ bit_length (ft - 1) ≤ 2 ^ 8 = pow_mono {i = bit_length (ft - 1)} {j = 8} l in
    (omega (arith, (length_pow (ft - 1) (omega arith)).0), omega arith)
