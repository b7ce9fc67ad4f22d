-- The tests are the rule, both ways, and what the rule says of entries and symbols. Assumes nothing.
use Prim.Native.Nat.{ℕ, zero, suc, ◌-◌, ◌^◌, ◌≤◌, ◌<◌}
use mathlib.Core.Path.{◌≡◌, refl, sym, ◌∙◌}
use mathlib.Core.Bool.{Bool, true, false, false≢true, cond}
use mathlib.Core.List.{List, [], ◌∷◌}
use native.Mathlib.Omega.{arith}
use native.Mathlib.Nat.{le_refl, le_trans, le_of_suc-le-suc, not-suc-le-zero, lt_of_le_of_lt}
use native.Mathlib.Decide.{dec_le}
use native.Mathlib.Numerals.{sub-one}
use borrow.Author.Tests.{leb-true, le-leb, ltb-true, lt-ltb, eqb-true, eq-eqb}
use lib.Dec.{leb, ltb, eqb}
use lib.Pow.{pow_pos}
use lib.ListN.{length, get_or, get_or-eq_default}
use Rattle.deciding.proofs.Both.{and_both, both_and, in_range_lem, range_in}
use Rattle.icdf.specs.Rule.{Icdf, before, Writable}
use Rattle.icdf.specs.Test.{falls_ok, scale_ok, icdf_ok, symbol_ok, icdf_rule, symbol_rule}

-- ---- entries that never rise and end in 0

-- what the test of the entries says, and what it asks
record Falling (m : ℕ) (t : List ℕ) : Type 0 where
  some : 1 ≤ length t
  first : get_or t 0 0 ≤ m
  falls : (k : ℕ) → suc k < length t → get_or t (suc k) 0 ≤ get_or t k 0
  ends : get_or t (length t - 1) 0 ≡ 0

-- the last entry is that of what follows the first
pub last_later : (x y : ℕ) (t : List ℕ) → get_or (x ∷ y ∷ t) (length (x ∷ y ∷ t) - 1) 0 ≡ get_or (y ∷ t) (length (y ∷ t) - 1) 0
last_later x y t = rw (sub-one (length (x ∷ y ∷ t)), sub-one (length (y ∷ t)))

falling_of : (m : ℕ) (t : List ℕ) → falls_ok m t ≡ true → Falling m t
falling_of m [] e = absurd (false≢true e)
falling_of m (x ∷ []) e =
    let p = and_both (leb x m) (eqb x 0) e in
    record { some = omega arith; first = leb-true x m p.0; falls = λ k h. absurd (omega arith); ends = eqb-true x 0 p.1 }
falling_of m (x ∷ y ∷ t) e =
    let p = and_both (leb x m) (falls_ok x (y ∷ t)) e in
    let q = falling_of x (y ∷ t) p.1 in
    record { some = omega arith; first = leb-true x m p.0; falls = below q; ends = last_later x y t ∙ q.ends }
  where
    below : Falling x (y ∷ t) → (k : ℕ) → suc k < length (x ∷ y ∷ t) → get_or (y ∷ t) k 0 ≤ get_or (x ∷ y ∷ t) k 0
    below q zero h = q.first
    below q (suc k) h = q.falls k (le_of_suc-le-suc h)

ok_falling : (m : ℕ) (t : List ℕ) → Falling m t → falls_ok m t ≡ true
ok_falling m [] f = absurd (not-suc-le-zero f.some)
ok_falling m (x ∷ []) f = both_and (leb x m) (eqb x 0) (le-leb x m f.first) (eq-eqb x 0 f.ends)
ok_falling m (x ∷ y ∷ t) f =
    both_and (leb x m) (falls_ok x (y ∷ t)) (le-leb x m f.first)
    (ok_falling x (y ∷ t) (record {
      some = omega arith;
      first = f.falls 0 (omega arith);
      falls = λ k h. f.falls (suc k) (omega arith);
      ends = sym (last_later x y t) ∙ f.ends;
    }))

-- ---- the rule and its test

pub icdf_of : (scale : ℕ) (t : List ℕ) → scale_ok scale ≡ true → icdf_ok scale t ≡ true → Icdf scale t
unfolding icdf_ok
icdf_of scale t e f =
    let s = in_range_lem 1 8 scale e in
    let p = and_both (leb (length t) 256) (falls_ok (2 ^ scale - 1) t) f in
    let q = falling_of (2 ^ scale - 1) t p.1 in
    record {
      least = s.0;
      most = s.1;
      some = q.some;
      few = leb-true _ _ p.0;
      first = omega (arith, q.first, pow_pos scale);
      falls = q.falls;
      ends = q.ends;
    }

pub icdf_scale : (scale : ℕ) (t : List ℕ) → Icdf scale t → scale_ok scale ≡ true
icdf_scale scale t h = range_in 1 8 scale h.least h.most

pub icdf_ok_lem : (scale : ℕ) (t : List ℕ) → Icdf scale t → icdf_ok scale t ≡ true
unfolding icdf_ok
icdf_ok_lem scale t h =
    both_and (leb (length t) 256) (falls_ok (2 ^ scale - 1) t) (le-leb _ _ h.few)
    (ok_falling (2 ^ scale - 1) t (record { some = h.some; first = omega (arith, h.first); falls = h.falls; ends = h.ends }))

pub symbol_of : (scale : ℕ) (t : List ℕ) (k : ℕ) → symbol_ok scale t k ≡ true → Writable scale t k
unfolding symbol_ok
symbol_of scale t k e =
    let p = and_both (ltb k (length t)) (ltb (get_or t k 0) (before scale t k)) e in
    record { inside = ltb-true _ _ p.0; chance = ltb-true _ _ p.1 }

pub symbol_ok_lem : (scale : ℕ) (t : List ℕ) (k : ℕ) → Writable scale t k → symbol_ok scale t k ≡ true
unfolding symbol_ok
symbol_ok_lem scale t k h =
    both_and (ltb k (length t)) (ltb (get_or t k 0) (before scale t k)) (lt-ltb _ _ h.inside) (lt-ltb _ _ h.chance)

-- ---- no refusal exactly where the rule holds

rule_parts : (a b : Bool) → ◌≡◌ {A = ℕ} (cond a (cond b 0 5) 4) 0 → (a ≡ true) × (b ≡ true)
rule_parts true true e = (refl, refl)
rule_parts true false e = absurd (omega arith)
rule_parts false b e = absurd (omega arith)

pub icdf_accepted : (scale : ℕ) (t : List ℕ) → icdf_rule scale t ≡ 0 → Icdf scale t
unfolding icdf_rule
icdf_accepted scale t e = let p = rule_parts (scale_ok scale) (icdf_ok scale t) e in icdf_of scale t p.0 p.1

pub icdf_accepts : (scale : ℕ) (t : List ℕ) → Icdf scale t → icdf_rule scale t ≡ 0
unfolding icdf_rule
icdf_accepts scale t h = rw (icdf_scale scale t h, icdf_ok_lem scale t h)

symbol_parts : (a b c : Bool) → ◌≡◌ {A = ℕ} (cond a (cond b (cond c 0 8) 5) 4) 0 → (a ≡ true) × (b ≡ true) × (c ≡ true)
symbol_parts true true true e = (refl, refl, refl)
symbol_parts true true false e = absurd (omega arith)
symbol_parts true false c e = absurd (omega arith)
symbol_parts false b c e = absurd (omega arith)

pub symbol_accepted : (scale : ℕ) (t : List ℕ) (k : ℕ) → symbol_rule scale t k ≡ 0 → Icdf scale t × Writable scale t k
unfolding symbol_rule
symbol_accepted scale t k e =
    let p = symbol_parts (scale_ok scale) (icdf_ok scale t) (symbol_ok scale t k) e in
    (icdf_of scale t p.0 p.1, symbol_of scale t k p.2)

pub symbol_accepts : (scale : ℕ) (t : List ℕ) (k : ℕ) → Icdf scale t → Writable scale t k → symbol_rule scale t k ≡ 0
unfolding symbol_rule
symbol_accepts scale t k h w = rw (icdf_scale scale t h, icdf_ok_lem scale t h, symbol_ok_lem scale t k w)

-- ---- what the coder takes from the rule

-- no entry is above an earlier one
pub falls_between : (scale : ℕ) (t : List ℕ) → Icdf scale t → (i k : ℕ) → i ≤ k → k < length t → get_or t k 0 ≤ get_or t i 0
falls_between scale t h i zero p l = let e : i ≡ 0 = omega arith in rw e (le_refl (get_or t 0 0))
falls_between scale t h i (suc k) p l = go (dec_le i k) (λ q. falls_between scale t h i k q (omega arith))
  where
    go : Dec (i ≤ k) → (i ≤ k → get_or t k 0 ≤ get_or t i 0) → get_or t (suc k) 0 ≤ get_or t i 0
    go (yes q) f = le_trans (h.falls k l) (f q)
    go (no q) f = let e : i ≡ suc k = omega arith in rw e (le_refl (get_or t (suc k) 0))

-- an entry is below 2^scale
pub entry_below : (scale : ℕ) (t : List ℕ) → Icdf scale t → (k : ℕ) → get_or t k 0 < 2 ^ scale
entry_below scale t h k = go (dec_le (length t) k)
  where
    go : Dec (length t ≤ k) → get_or t k 0 < 2 ^ scale
    go (yes p) = rw (get_or-eq_default t 0 p) (pow_pos scale)
    go (no p) = lt_of_le_of_lt (falls_between scale t h 0 k (omega arith) (omega arith)) h.first

-- a writable symbol has a part above 0: its fl is below its fh
pub part_some : (scale : ℕ) (t : List ℕ) (k : ℕ) → Icdf scale t → Writable scale t k → 2 ^ scale - before scale t k < 2 ^ scale - get_or t k 0
part_some scale t k h w = omega (arith, w.chance, before_most k)
  where
    before_most : (j : ℕ) → before scale t j ≤ 2 ^ scale
    before_most zero = omega arith
    before_most (suc j) = omega (arith, entry_below scale t h j)
