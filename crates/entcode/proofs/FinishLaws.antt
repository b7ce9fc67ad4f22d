-- What finishing chooses: the fewest top bits that stay in [value, value + range) whatever follows them. Assumes
-- nothing.
use Prim.Native.Nat.{ℕ, suc, ◌+◌, ◌-◌, ◌*◌, ◌/◌, ◌%◌, ◌^◌, ◌≤◌, ◌<◌}
use mathlib.Core.Path.{◌≡◌, ap}
use native.Mathlib.Omega.{arith}
use native.Mathlib.Nat.{add-mul, mul-le-mul_left, div-add-mod', mod-lt, div-lt_iff_lt-mul}
use lib.Count.{count_leading_zeros, leading_top}
use lib.Pow.{pow_pos, pow_mono}
use Rattle.deciding.proofs.Choice.{chosen_lt, by_lt}
use Rattle.entcode.specs.Finish.{cell, round_up, bits_of, end_of}

-- ---- rounding up to a multiple

pub round_up_lem : (n p : ℕ) → 1 ≤ p → (n ≤ round_up n p) × (round_up n p < n + p)
round_up_lem n p h =
    let d : (n + (p - 1)) / p * p + (n + (p - 1)) % p ≡ n + (p - 1) = div-add-mod' (n + (p - 1)) p in
    let l : (n + (p - 1)) % p < p = mod-lt (n + (p - 1)) h in
    (omega arith, omega arith)

-- no multiple of p at or above n is below it
pub round_least : (n p m : ℕ) → 1 ≤ p → n ≤ m * p → round_up n p ≤ m * p
round_least n p m h l =
    let q : (n + (p - 1)) / p < suc m = (div-lt_iff_lt-mul h).1 (omega (arith, add-mul m 1 p)) in
    let k : (n + (p - 1)) / p ≤ m = omega arith in
    omega (arith, mul-le-mul_left p k)

-- ---- the range's leading zeros, and the cell of so many bits

pub record Zeros (R l : ℕ) : Type 0 where
  pub few : l ≤ 8
  pub some : 1 ≤ cell l
  pub inside : cell l ≤ R
  pub twice : R < 2 * cell l

pub zeros : (R : ℕ) → 2 ^ 23 < R → R ≤ 2 ^ 31 → Zeros R (count_leading_zeros 32 R)
zeros R h m = go (leading_top 32 R (omega arith) (omega arith))
  where
    go : (j : ℕ) × (count_leading_zeros 32 R + suc j ≡ 32) × (2 ^ j ≤ R) × (R < 2 ^ suc j) → Zeros R (count_leading_zeros 32 R)
    go (j, e, a, b) =
        let q : 31 - count_leading_zeros 32 R ≡ j = omega arith in
        let c : cell (count_leading_zeros 32 R) ≡ 2 ^ j = ap (λ (k : ℕ). 2 ^ k) q in
        let few : 23 ≤ j = by_lt j 23
        (λ k. let p : 2 ^ suc j ≤ 2 ^ 23 = pow_mono {i = suc j} {j = 23} (omega arith) in absurd (omega arith))
        (λ k. k) in
        record { few = omega arith; some = pow_pos (31 - count_leading_zeros 32 R); inside = omega arith; twice = omega arith }

-- a bit more halves the cell
pub cell_half : (l : ℕ) → l ≤ 30 → cell l ≡ 2 * cell (suc l)
cell_half l h =
    let e : 31 - l ≡ suc (31 - suc l) = omega arith in
    let c : cell l ≡ 2 ^ suc (31 - suc l) = ap (λ (k : ℕ). 2 ^ k) e in
    omega arith

-- ---- enough

-- l bits hold: whatever the bits below them are, the number stays in [n, n + R); and they are at most one more than
-- the range has leading zeros
pub record Enough (R n l : ℕ) : Type 0 where
  pub most : l ≤ count_leading_zeros 32 R + 1
  pub few : l ≤ 9
  pub low : n ≤ round_up n (cell l)
  pub high : round_up n (cell l) + cell l ≤ n + R

pub bits_enough : (R n : ℕ) → 2 ^ 23 < R → R ≤ 2 ^ 31 → Enough R n (bits_of R n)
bits_enough R n h m =
    let l = count_leading_zeros 32 R in
    let z : Zeros R l = zeros R h m in
    chosen_lt (Enough R n) (n + R) (round_up n (cell l) + cell l)
    (λ t. let e : cell l ≡ 2 * cell (suc l) = cell_half l (omega (arith, z.few)) in
    let r = round_up_lem n (cell (suc l)) (pow_pos (31 - suc l)) in
    record { most = omega arith; few = omega (arith, z.few); low = r.0; high = omega (arith, z.inside, r.1) })
    (λ t. record { most = omega arith; few = omega (arith, z.few); low = (round_up_lem n (cell l) z.some).0; high = t })

-- the end value with any low bits x
pub end_inside : (R n x : ℕ) → 2 ^ 23 < R → R ≤ 2 ^ 31 → x < cell (bits_of R n) → (n ≤ end_of R n + x) × (end_of R n + x < n + R)
end_inside R n x h m l = let b : Enough R n (bits_of R n) = bits_enough R n h m in (omega (arith, b.low), omega (arith, b.high))

-- ---- fewest: no smaller number of bits does, for any number whose bits below them are 0

cell_mono : (i j : ℕ) → i ≤ j → cell j ≤ cell i
cell_mono i j h = pow_mono {i = 31 - j} {j = 31 - i} (omega arith)

-- a cell twice as large as the leading zeros' is larger than the range
too_few : (R n l k g : ℕ) → Zeros R l → k < l → n ≤ g * cell k → g * cell k + cell k ≤ n + R → ⊥
too_few R n l k g z h a b =
    let e : cell k ≡ 2 * cell (suc k) = cell_half k (omega (arith, z.few)) in
    omega (arith, z.twice, cell_mono (suc k) l h)

pub bits_fewest : (R n k g : ℕ) → 2 ^ 23 < R → R ≤ 2 ^ 31 → k < bits_of R n → n ≤ g * cell k → g * cell k + cell k ≤ n + R → ⊥
bits_fewest R n k g h m =
    let l = count_leading_zeros 32 R in
    let z : Zeros R l = zeros R h m in
    chosen_lt (λ (b : ℕ). k < b → n ≤ g * cell k → g * cell k + cell k ≤ n + R → ⊥) (n + R) (round_up n (cell l) + cell l)
    (λ t u a b. by_lt k l (λ s. too_few R n l k g z s a b) (λ s. one_short t (omega arith) a b))
    (λ t u a b. too_few R n l k g z u a b)
  where
    one_short : n + R < round_up n (cell (count_leading_zeros 32 R)) + cell (count_leading_zeros 32 R) → k ≡ count_leading_zeros 32 R
        → n ≤ g * cell k → g * cell k + cell k ≤ n + R → ⊥
    one_short t e a b =
        let c : cell k ≡ cell (count_leading_zeros 32 R) = ap (λ (i : ℕ). cell i) e in
        let a' : n ≤ g * cell (count_leading_zeros 32 R) = rw (← c) a in
        let b' : g * cell (count_leading_zeros 32 R) + cell (count_leading_zeros 32 R) ≤ n + R = rw (← c) b in
        omega (arith, round_least n (cell (count_leading_zeros 32 R)) g (pow_pos (31 - count_leading_zeros 32 R)) a')
