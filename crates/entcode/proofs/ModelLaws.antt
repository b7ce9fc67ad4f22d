-- The four kinds of symbol: each is a proper cut and a raw part of at most 25 bits; the reader picks the coded part
-- that holds the value, and no other does. Assumes nothing.
use Prim.Native.Nat.{ℕ, zero, suc, ◌+◌, ◌-◌, ◌*◌, ◌/◌, ◌%◌, ◌^◌, ◌≤◌, ◌<◌}
use mathlib.Core.Path.{◌≡◌, refl, ap, ◌∙◌}
use mathlib.Core.List.{List}
use native.Mathlib.Omega.{arith}
use native.Mathlib.Nat.{mul_comm, mul-le-mul_left, div-add-mod', mod-lt, div-lt_iff_lt-mul, le-div_iff_mul-le, lt_of_not-le, not-le_of_lt}
use native.Mathlib.Decide.{dec_le}
use borrow.Author.Tests.{lt-ltb, le-ltb}
use lib.ListN.{get_or}
use lib.Pow.{pow_mono, pow_pos, shr_lt, shr_mono}
use Rattle.bitlen.specs.Length.{bit_length}
use Rattle.bitlen.proofs.LengthLaws.{length_pow, length_most}
use Rattle.deciding.proofs.Choice.{chosen_lt}
use Rattle.icdf.specs.Rule.{Icdf}
use Rattle.icdf.proofs.RuleLaws.{entry_below}
use Rattle.icdf.specs.Search.{search}
use Rattle.icdf.proofs.SearchLaws.{Found, search_found, found_one}
use Rattle.entcode.specs.Models.{Model, bit, raw, num, tab, raw_bits, coded, lo, hi, all, raw_n, raw_v, joined, Readable, Fitting, Allowed}
use Rattle.entcode.specs.Cuts.{upper, lower}
use Rattle.entcode.proofs.CutLaws.{Proper, step_some, upper_some}
use Rattle.entcode.specs.Reader.{sought, pick}

-- ---- powers

pub two_pow : (n : ℕ) → 1 ≤ n → 2 ≤ 2 ^ n
two_pow n h = pow_mono {i = 1} h

pub pow_fifteen : (n : ℕ) → n ≤ 15 → 2 ^ n ≤ 2 ^ 15
pow_fifteen n h = pow_mono h

-- ---- a raw part has at most 25 bits, and its number fits them

pub raw_most : (m : Model) → Readable m → raw_n m ≤ 25
raw_most (bit lp) o = omega arith
raw_most (raw n) o = o.1
raw_most (num ft) o = omega (arith, length_most (ft - 1))
raw_most (tab scale t) o = omega arith

pub raw_small : (m : Model) (v : ℕ) → Fitting m v → raw_v m v < 2 ^ raw_n m
raw_small (bit lp) v f = omega arith
raw_small (raw n) v f = f
raw_small (num ft) v f = mod-lt v (pow_pos (raw_bits ft))
raw_small (tab scale t) v f = omega arith

pub joined_parts : (m : Model) (v : ℕ) → joined m (coded m v) (raw_v m v) ≡ v
joined_parts (bit lp) v = refl
joined_parts (raw n) v = refl
joined_parts (num ft) v = div-add-mod' v (2 ^ raw_bits ft)
joined_parts (tab scale t) v = refl

-- ---- the coded part of a bounded number has at most eight bits

pub num_small : (ft : ℕ) → 1 ≤ ft → ft < 2 ^ 32 → (ft - 1) / 2 ^ raw_bits ft < 256
num_small ft a b = go (dec_le (bit_length (ft - 1)) 8)
  where
    below : ft - 1 < 2 ^ bit_length (ft - 1)
    below = (length_pow (ft - 1) (omega arith)).0

    go : Dec (bit_length (ft - 1) ≤ 8) → (ft - 1) / 2 ^ raw_bits ft < 256
    go (yes p) =
        let e : raw_bits ft ≡ 0 = omega arith in
        let q : 2 ^ bit_length (ft - 1) ≤ 256 = pow_mono {j = 8} p in
        rw e (omega (arith, below))
    go (no p) =
        let e : bit_length (ft - 1) ≡ 8 + raw_bits ft = omega arith in
        shr_lt 8 (raw_bits ft) (rw e at below)

-- ---- every symbol that may be written has a proper piece

pub proper : (m : Model) (v : ℕ) → Allowed m v → Proper (lo m (coded m v)) (hi m (coded m v)) (all m)
proper (bit lp) zero w =
    record { below = omega (arith, two_pow lp w.readable.0); within = omega arith; small = pow_fifteen lp w.readable.1 }
proper (bit lp) (suc v) w =
    record { below = omega (arith, two_pow lp w.readable.0); within = omega arith; small = pow_fifteen lp w.readable.1 }
proper (raw n) v w = record { below = omega arith; within = omega arith; small = omega arith }
proper (num ft) v w =
    record {
      below = omega arith;
      within = omega (arith, shr_mono {a = v} {b = ft - 1} (raw_bits ft) (omega (arith, w.fitting)));
      small = omega (arith, num_small ft (omega (arith, w.readable.0)) w.readable.1);
    }
proper (tab scale t) zero w =
    record {
      below = omega (arith, entry_below scale t w.readable 0, two_pow scale w.readable.least);
      within = omega arith;
      small = pow_fifteen scale (omega (arith, w.readable.most));
    }
proper (tab scale t) (suc k) w =
    record {
      below = omega (arith, w.fitting.chance, entry_below scale t w.readable k);
      within = omega arith;
      small = pow_fifteen scale (omega (arith, w.readable.most));
    }

-- ---- the ends of a bit's and of a table's parts, as the code computes them

pub bit_upper : (R lp : ℕ) → 1 ≤ lp → upper R (2 ^ lp - 1) (2 ^ lp) ≡ R / 2 ^ lp
bit_upper R lp h =
    let p : 2 ≤ 2 ^ lp = two_pow lp h in
    let e : 2 ^ lp - (2 ^ lp - 1) ≡ 1 = omega arith in
    upper_some R (2 ^ lp - 1) (2 ^ lp) (omega arith) ∙ ap (λ (x : ℕ). R / 2 ^ lp * x) e ∙ omega arith

pub bit_lower : (R lp : ℕ) → lower R (2 ^ lp - 1) (2 ^ lp) ≡ R / 2 ^ lp
bit_lower R lp = let e : 2 ^ lp - (2 ^ lp - 1) ≡ 1 = omega (arith, pow_pos lp) in ap (λ (x : ℕ). R / 2 ^ lp * x) e ∙ omega arith

pub bit_whole : (R lp : ℕ) → lower R (2 ^ lp) (2 ^ lp) ≡ 0
bit_whole R lp = let z : 2 ^ lp - 2 ^ lp ≡ 0 = omega arith in ap (λ (x : ℕ). R / 2 ^ lp * x) z ∙ omega arith

pub tab_lower : (R scale x : ℕ) → x < 2 ^ scale → lower R (2 ^ scale - x) (2 ^ scale) ≡ R / 2 ^ scale * x
tab_lower R scale x h = let e : 2 ^ scale - (2 ^ scale - x) ≡ x = omega arith in ap (λ (y : ℕ). R / 2 ^ scale * y) e

pub tab_upper : (R scale x : ℕ) → x < 2 ^ scale → upper R (2 ^ scale - x) (2 ^ scale) ≡ R / 2 ^ scale * x
tab_upper R scale x h = upper_some R (2 ^ scale - x) (2 ^ scale) (omega arith) ∙ tab_lower R scale x h

-- ---- the coded part c holds the value: it is a proper piece, and the value lies between its ends

pub record Holds (m : Model) (R val c : ℕ) : Type 0 where
  pub proper : Proper (lo m c) (hi m c) (all m)
  pub low : lower R (hi m c) (all m) ≤ val
  pub high : val < upper R (lo m c) (all m)

bit_holds : (lp R val : ℕ) → 1 ≤ lp → lp ≤ 15 → val < R → Holds (bit lp) R val (pick (bit lp) R val)
bit_holds lp R val a c h =
    let p : 2 ≤ 2 ^ lp = two_pow lp a in
    chosen_lt (Holds (bit lp) R val) val (R / 2 ^ lp)
    (λ l. record {
      proper = record { below = omega arith; within = omega arith; small = pow_fifteen lp c };
      low = rw (bit_whole R lp) (omega arith);
      high = rw (bit_upper R lp a) l;
    })
    (λ l. record {
      proper = record { below = omega arith; within = omega arith; small = pow_fifteen lp c };
      low = rw (bit_lower R lp) l;
      high = h;
    })

-- q of the quotient r: r q <= val < r (q + 1)
quotient : (val r : ℕ) → 1 ≤ r → (r * (val / r) ≤ val) × (val < r * suc (val / r))
quotient val r h =
    let d : val / r * r + val % r ≡ val = div-add-mod' val r in
    let l : val % r < r = mod-lt val h in
    (omega (arith, mul_comm r (val / r)), omega (arith, mul_comm r (val / r)))

sought_holds : (R val ft c : ℕ) → c ≡ sought R val ft → 1 ≤ ft → ft ≤ 256 → 2 ^ 23 < R → val < R
    → (c < ft) × (lower R (suc c) ft ≤ val) × (val < upper R c ft)
sought_holds R val ft zero e f s h v =
    let u : 256 ≤ R / ft = step_some R ft h f (omega arith) in
    let q : (R / ft * (val / (R / ft)) ≤ val) × (val < R / ft * suc (val / (R / ft))) = quotient val (R / ft) (omega arith) in
    let l : ft - 1 ≤ val / (R / ft) = omega arith in
    (omega arith, omega (arith, mul-le-mul_left (R / ft) l), v)
sought_holds R val ft (suc c) e f s h v =
    let u : 256 ≤ R / ft = step_some R ft h f (omega arith) in
    let q : (R / ft * (val / (R / ft)) ≤ val) × (val < R / ft * suc (val / (R / ft))) = quotient val (R / ft) (omega arith) in
    let l : ft - suc (suc c) ≡ val / (R / ft) = omega arith in
    let k : ft - suc c ≡ suc (val / (R / ft)) = omega arith in
    (omega arith, rw l q.0, rw k q.1)

num_holds : (ft R val : ℕ) → 2 ≤ ft → ft < 2 ^ 32 → 2 ^ 23 < R → val < R → Holds (num ft) R val (pick (num ft) R val)
num_holds ft R val a c h v =
    let n : (ft - 1) / 2 ^ raw_bits ft < 256 = num_small ft (omega arith) c in
    let x = sought R val (all (num ft)) in
    let p : (x < all (num ft)) × (lower R (suc x) (all (num ft)) ≤ val) × (val < upper R x (all (num ft)))
    = sought_holds R val (all (num ft)) x refl (omega arith) (omega arith) h v in
    record { proper = record { below = omega arith; within = p.0; small = omega arith }; low = p.1; high = p.2 }

smaller : (r a b : ℕ) → r * a < r * b → a < b
smaller r a b h = lt_of_not-le (λ (l : b ≤ a). not-le_of_lt h (mul-le-mul_left r l))

tab_holds : (scale : ℕ) (t : List ℕ) (R val k : ℕ) → Icdf scale t → val < R → Found (R / 2 ^ scale) val t k → Holds (tab scale t) R val k
tab_holds scale t R val zero o v f =
    let p : 2 ≤ 2 ^ scale = two_pow scale o.least in
    let x : get_or t 0 0 < 2 ^ scale = entry_below scale t o 0 in
    record {
      proper = record { below = omega arith; within = omega arith; small = pow_fifteen scale (omega (arith, o.most)) };
      low = rw (tab_lower R scale (get_or t 0 0) x) f.low;
      high = v;
    }
tab_holds scale t R val (suc k) o v f =
    let x : get_or t (suc k) 0 < 2 ^ scale = entry_below scale t o (suc k) in
    let y : get_or t k 0 < 2 ^ scale = entry_below scale t o k in
    let l : get_or t (suc k) 0 < get_or t k 0 = smaller (R / 2 ^ scale) (get_or t (suc k) 0) (get_or t k 0) (omega (arith, f.low, f.high k refl)) in
    record {
      proper = record { below = omega arith; within = omega arith; small = pow_fifteen scale (omega (arith, o.most)) };
      low = rw (tab_lower R scale (get_or t (suc k) 0) x) f.low;
      high = rw (tab_upper R scale (get_or t k 0) y) (f.high k refl);
    }

-- the part that is picked holds the value
pub pick_holds : (m : Model) (R val : ℕ) → Readable m → 2 ^ 23 < R → val < R → Holds m R val (pick m R val)
pick_holds (bit lp) R val o h v = bit_holds lp R val o.0 o.1 v
pick_holds (raw n) R val o h v =
    record { proper = record { below = omega arith; within = omega arith; small = omega arith }; low = omega arith; high = v }
pick_holds (num ft) R val o h v = num_holds ft R val o.0 o.1 h v
pick_holds (tab scale t) R val o h v =
    tab_holds scale t R val (search (R / 2 ^ scale) val t) o v (search_found scale (R / 2 ^ scale) val t o)

-- ---- and it is the only one: a value in the part of an allowed symbol has that symbol picked

sought_is : (R val c ft : ℕ) → 1 ≤ R / ft → c < ft → lower R (suc c) ft ≤ val → val < upper R c ft → sought R val ft ≡ c
sought_is R val zero ft u l a b =
    let q : ft - 1 ≤ val / (R / ft) = (le-div_iff_mul-le u).1 (omega (arith, mul_comm (R / ft) (ft - 1))) in
    omega arith
sought_is R val (suc c) ft u l a b =
    let q : ft - suc (suc c) ≤ val / (R / ft) = (le-div_iff_mul-le u).1 (omega (arith, mul_comm (R / ft) (ft - suc (suc c)))) in
    let p : val / (R / ft) < ft - suc c = (div-lt_iff_lt-mul u).1 (omega (arith, mul_comm (R / ft) (ft - suc c))) in
    omega arith

tab_found : (scale : ℕ) (t : List ℕ) (k R val : ℕ) → Allowed (tab scale t) k
    → lower R (hi (tab scale t) k) (2 ^ scale) ≤ val → val < upper R (lo (tab scale t) k) (2 ^ scale) → Found (R / 2 ^ scale) val t k
tab_found scale t k R val w a b =
    record {
      inside = w.fitting.inside;
      low = rw (tab_lower R scale (get_or t k 0) (entry_below scale t w.readable k)) at a;
      high = above k b;
    }
  where
    above : (k : ℕ) → val < upper R (lo (tab scale t) k) (2 ^ scale) → (j : ℕ) → suc j ≡ k → val < R / 2 ^ scale * get_or t j 0
    above zero h j e = absurd (omega arith)
    above (suc k) h j e =
        let q : j ≡ k = omega arith in
        rw q (rw (tab_upper R scale (get_or t k 0) (entry_below scale t w.readable k)) at h)

pub pick_is : (m : Model) (v R val : ℕ) → Allowed m v → 2 ^ 23 < R
    → lower R (hi m (coded m v)) (all m) ≤ val → val < upper R (lo m (coded m v)) (all m)
    → pick m R val ≡ coded m v
pick_is (bit lp) zero R val w h a b = rw (le-ltb val (R / 2 ^ lp) (rw (bit_lower R lp) at a))
pick_is (bit lp) (suc zero) R val w h a b = rw (lt-ltb val (R / 2 ^ lp) (rw (bit_upper R lp w.readable.0) at b))
pick_is (bit lp) (suc (suc v)) R val w h a b = absurd (omega (arith, w.fitting))
pick_is (raw n) v R val w h a b = refl
pick_is (num ft) v R val w h a b =
    let p : Proper (v / 2 ^ raw_bits ft) (suc (v / 2 ^ raw_bits ft)) (all (num ft)) = proper (num ft) v w in
    sought_is R val (v / 2 ^ raw_bits ft) (all (num ft))
    (omega (arith, step_some R (all (num ft)) h (omega arith) p.small)) p.within a b
pick_is (tab scale t) k R val w h a b =
    found_one scale (R / 2 ^ scale) val t (search (R / 2 ^ scale) val t) k w.readable
    (search_found scale (R / 2 ^ scale) val t w.readable) (tab_found scale t k R val w a b)
