-- Numbers of digits to the base 256. The buffer is one number seen from both ends: its first bytes are the coded stream, its last the raw one.
-- Part 1 of the argument. Assumes nothing.
use Prim.Native.Nat.{ℕ, zero, suc, ◌+◌, ◌-◌, ◌*◌, ◌/◌, ◌%◌, ◌^◌, ◌≤◌, ◌<◌}
use mathlib.Core.Path.{◌≡◌, refl, sym, ap, ◌∙◌}
use mathlib.Core.List.{List, [], ◌∷◌, ◌++◌}
use native.Mathlib.Omega.{arith}
use lib.ListN.{length, replicate, get_or, take, drop, take-append-drop}
use lib.Pow.{pow-add}
use lib.Seq.{take-suc, take-length}

-- the number of the digits ds, most significant first, behind the number a
abbrev pub number : ℕ → List ℕ → ℕ
number a [] = a
number a (d ∷ ds) = number (256 * a + d) ds

-- the number of the first m bytes of b, 0 past its end
abbrev pub prefix : List ℕ → ℕ → ℕ
prefix b zero = 0
prefix b (suc m) = 256 * prefix b m + get_or b m 0

-- the number of its first 8 m - 1 bits: what a reader of m bytes has looked at
abbrev pub code : List ℕ → ℕ → ℕ
code b m = prefix b m / 2

-- ---- a power taken apart

pub pow_split : (n u : ℕ) → u ≤ n → 2 ^ n ≡ 2 ^ u * 2 ^ (n - u)
pow_split n u h = let e : n ≡ u + (n - u) = omega arith in ap (λ (x : ℕ). 2 ^ x) e ∙ pow-add 2 u (n - u)

-- ---- digits behind digits

pub number_append : (a : ℕ) (xs ys : List ℕ) → number a (xs ++ ys) ≡ number (number a xs) ys
number_append a [] ys = refl
number_append a (x ∷ xs) ys = number_append (256 * a + x) xs ys

-- one more than a run of 255s is a carry and a run of 0s
pub run_carry : (x a : ℕ) → number a (replicate x 255) + 1 ≡ number (a + 1) (replicate x 0)
run_carry zero a = refl
run_carry (suc x) a = run_carry x (256 * a + 255) ∙ ap (λ (n : ℕ). number n (replicate x 0)) (omega arith)

-- a run may grow at its end
pub run_more : (x a : ℕ) → number a (replicate (suc x) 255) ≡ 256 * number a (replicate x 255) + 255
run_more zero a = refl
run_more (suc x) a = run_more x (256 * a + 255)

-- ---- the first bytes of a buffer

pub prefix_take : (b : List ℕ) (m : ℕ) → m ≤ length b → prefix b m ≡ number 0 (take m b)
prefix_take b zero h = refl
prefix_take b (suc m) h = rw (take-suc b m 0 h, number_append, prefix_take b m (omega arith))

pub prefix_split : (b : List ℕ) (i : ℕ) → i ≤ length b → prefix b (length b) ≡ number (prefix b i) (drop i b)
prefix_split b i h =
    let l : length b ≤ length b = omega arith in
    prefix_take b (length b) l
    ∙ ap (λ (x : List ℕ). number 0 x) (take-length b ∙ sym (take-append-drop i b))
    ∙ number_append 0 (take i b) (drop i b)
    ∙ ap (λ (x : ℕ). number x (drop i b)) (sym (prefix_take b i h))

pub prefix_same : (b c : List ℕ) (m : ℕ) → m ≤ length b → m ≤ length c → take m b ≡ take m c → prefix b m ≡ prefix c m
prefix_same b c m h k e = prefix_take b m h ∙ ap (λ (x : List ℕ). number 0 x) e ∙ sym (prefix_take c m k)

-- eight bits more: the last bit of one byte and seven of the next
pub code_step : (b : List ℕ) (m : ℕ) → get_or b (suc m) 0 < 256
    → code b (suc (suc m)) ≡ 256 * code b (suc m) + (256 * get_or b m 0 + get_or b (suc m) 0) / 2 % 256
code_step b m h = omega arith
