-- The laws of decimal text: how it is made from the text of n / 10, that it is read back as its number, that it
-- begins with no zero, and how long it is. Assumes nothing.
use Prim.Native.Nat.{ℕ, zero, suc, ◌+◌, ◌-◌, ◌*◌, ◌/◌, ◌%◌, ◌^◌, ◌≤◌, ◌<◌}
use mathlib.Core.Path.{◌≡◌, refl, sym, ap, subst, ◌∙◌}
use mathlib.Core.Bool.{true, false}
use mathlib.Core.List.{List, [], ◌∷◌, ◌++◌}
use native.Mathlib.Nat.{pow-suc}
use native.Mathlib.Omega.{arith}
use borrow.Author.Tests.{lt-ltb, le-ltb, ltb-true}
use lib.Dec.{T}
use lib.IntN.{ℤ, pos, negsuc, nat_abs}
use lib.Signed.{lt_z}
use lib.ListN.{length, get_or, length-append}
use Rattle.deciding.proofs.Choice.{chosen_lt, by_lt}
use Rattle.numerals.specs.Decimal.{digit, digits_in, natural, decimal}

-- ---- digit by digit

enough : (k j n : ℕ) → n < k → n < j → digits_in k n ≡ digits_in j n
unfolding digits_in
enough zero j n p q = absurd (omega arith)
enough (suc k) zero n p q = absurd (omega arith)
enough (suc k) (suc j) n p q =
    by_lt n 10 (λ h. rw (lt-ltb n 10 h))
    (λ h.
    let e = enough k j (n / 10) (omega arith) (omega arith) in
    rw (le-ltb n 10 h) (ap (λ (l : List ℕ). l ++ (digit (n % 10) ∷ [])) e))

pub natural_small : (n : ℕ) → n < 10 → natural n ≡ digit n ∷ []
unfolding natural digits_in
natural_small n h = rw (lt-ltb n 10 h)

pub natural_next : (n : ℕ) → 10 ≤ n → natural n ≡ natural (n / 10) ++ (digit (n % 10) ∷ [])
unfolding natural digits_in
natural_next n h =
    rw (le-ltb n 10 h) (ap (λ (l : List ℕ). l ++ (digit (n % 10) ∷ [])) (enough n (suc (n / 10)) (n / 10) (omega arith) (omega arith)))

-- the minus sign goes by the test for a number below 0
pub decimal_minus : (z : ℤ) → lt_z z (pos 0) ≡ true → 45 ∷ natural (nat_abs z) ≡ decimal z
unfolding decimal
decimal_minus (pos n) h = absurd (omega (arith, ltb-true n 0 h))
decimal_minus (negsuc n) h = refl

pub decimal_plain : (z : ℤ) → lt_z z (pos 0) ≡ false → natural (nat_abs z) ≡ decimal z
unfolding decimal
decimal_plain (pos n) h = refl
decimal_plain (negsuc n) h = absurd (subst T h tt)

-- ---- read back

-- the number that digits stand for, behind those that stand for v
abbrev pub value : ℕ → List ℕ → ℕ
value v [] = v
value v (d ∷ ds) = value (v * 10 + (d - 48)) ds

value_snoc : (v : ℕ) (ds : List ℕ) (d : ℕ) → value v (ds ++ (d ∷ [])) ≡ value v ds * 10 + (d - 48)
value_snoc v [] d = refl
value_snoc v (e ∷ ds) d = value_snoc (v * 10 + (e - 48)) ds d

value_in : (k n : ℕ) → n < k → value 0 (digits_in k n) ≡ n
unfolding digits_in
value_in zero n h = absurd (omega arith)
value_in (suc k) n h =
    chosen_lt (λ (l : List ℕ). value 0 l ≡ n) n 10 (λ p. omega arith)
    (λ p. omega (arith, value_snoc 0 (digits_in k (n / 10)) (digit (n % 10)), value_in k (n / 10) (omega arith)))

pub natural_value : (n : ℕ) → value 0 (natural n) ≡ n
unfolding natural
natural_value n = value_in (suc n) n (omega arith)

-- the first digit is no zero, but for 0 itself
first_in : (k n : ℕ) → 0 < n → n < k → 48 < get_or (digits_in k n) 0 0
unfolding digits_in
first_in zero n p h = absurd (omega arith)
first_in (suc k) n p h =
    chosen_lt (λ (l : List ℕ). 48 < get_or l 0 0) n 10 (λ q. omega arith)
    (λ q. front (digits_in k (n / 10)) (first_in k (n / 10) (omega arith) (omega arith)))
  where
    front : (l : List ℕ) → 48 < get_or l 0 0 → 48 < get_or (l ++ (digit (n % 10) ∷ [])) 0 0
    front [] q = absurd (omega arith)
    front (d ∷ l) q = q

pub natural_first : (n : ℕ) → 0 < n → 48 < get_or (natural n) 0 0
unfolding natural
natural_first n p = first_in (suc n) n p (omega arith)

never_minus : (a b : ℕ) → natural a ≡ 45 ∷ natural (suc b) → ⊥
unfolding natural digits_in
never_minus zero b e = let z = ap (λ (l : List ℕ). get_or l 0 0) e in omega (arith, z)
never_minus (suc a) b e = let z = ap (λ (l : List ℕ). get_or l 0 0) e in omega (arith, natural_first (suc a) (omega arith), z)

-- two numbers with one text are one number
pub decimal_one : (a b : ℤ) → decimal a ≡ decimal b → a ≡ b
unfolding decimal
decimal_one (pos a) (pos b) e = ap pos (sym (natural_value a) ∙ ap (value 0) e ∙ natural_value b)
decimal_one (negsuc a) (negsuc b) e =
    let f : suc a ≡ suc b = sym (natural_value (suc a)) ∙ ap (λ (l : List ℕ). value 0 (rest l)) e ∙ natural_value (suc b) in
    let g : a ≡ b = omega arith in
    ap negsuc g
  where
    rest : List ℕ → List ℕ
    rest [] = []
    rest (x ∷ l) = l
decimal_one (pos a) (negsuc b) e = absurd (never_minus a b e)
decimal_one (negsuc a) (pos b) e = absurd (never_minus b a (sym e))

-- ---- its length

length_in : (j k n : ℕ) → n < 10 ^ suc j → length (digits_in k n) ≤ suc j
unfolding digits_in
length_in j zero n h = omega arith
length_in zero (suc k) n h = rw (lt-ltb n 10 h) (omega arith)
length_in (suc j) (suc k) n h =
    chosen_lt (λ (l : List ℕ). length l ≤ suc (suc j)) n 10 (λ p. omega arith)
    (λ p.
    let q = length_in j k (n / 10) (omega (arith, pow-suc 10 (suc j))) in
    omega (arith, q, length-append (digits_in k (n / 10)) (digit (n % 10) ∷ [])))

pub natural_length : (j n : ℕ) → n < 10 ^ suc j → length (natural n) ≤ suc j
unfolding natural
natural_length j n h = length_in j (suc n) n h
