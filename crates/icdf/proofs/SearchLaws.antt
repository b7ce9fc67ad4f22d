-- The search for a symbol ends inside the table, at the symbol whose part holds the value. Assumes nothing.
use Prim.Native.Nat.{ℕ, zero, suc, ◌-◌, ◌*◌, ◌≤◌, ◌<◌}
use mathlib.Core.Path.{◌≡◌, refl, sym, ap, ◌∙◌}
use mathlib.Core.List.{List, [], ◌∷◌}
use native.Mathlib.Omega.{arith}
use native.Mathlib.Nat.{mul-zero, mul-le-mul_left, not-suc-le-zero}
use borrow.Author.Tests.{lt-ltb, le-ltb}
use lib.ListN.{length, get_or, drop}
use lib.Seq.{drop-cons}
use Rattle.deciding.proofs.Choice.{chosen_lt, by_lt}
use Rattle.icdf.specs.Rule.{Icdf}
use Rattle.icdf.proofs.RuleLaws.{last_later, falls_between}
use Rattle.icdf.specs.Search.{search}

-- from place k the search goes on, or stops
pub search_on : (unit v : ℕ) (t : List ℕ) (k : ℕ) → k < length t → v < unit * get_or t k 0 → search unit v (drop k t) ≡ suc (search unit v (drop (suc k) t))
unfolding search
search_on unit v t k h l = rw (drop-cons t k 0 h, lt-ltb v (unit * get_or t k 0) l)

pub search_stop : (unit v : ℕ) (t : List ℕ) (k : ℕ) → k < length t → unit * get_or t k 0 ≤ v → search unit v (drop k t) ≡ 0
unfolding search
search_stop unit v t k h l = rw (drop-cons t k 0 h, le-ltb v (unit * get_or t k 0) l)

-- a symbol whose lower end is above a value is not the last
pub not_last : (scale unit v : ℕ) (t : List ℕ) (k : ℕ) → Icdf scale t → k < length t → v < unit * get_or t k 0 → suc k < length t
not_last scale unit v t k h l p = by_lt (suc k) (length t) (λ q. q) (λ q. absurd (never (omega arith)))
  where
    never : k ≡ length t - 1 → ⊥
    never e =
        let z : unit * get_or t k 0 ≡ 0 = ap (λ (i : ℕ). unit * get_or t i 0) e ∙ ap (λ (x : ℕ). unit * x) h.ends ∙ mul-zero unit in
        omega arith

-- the symbol k that the search finds: a place of the table, its lower end not above the value, the end of the one
-- before it above
pub record Found (unit v : ℕ) (t : List ℕ) (k : ℕ) : Type 0 where
  pub inside : k < length t
  pub low : unit * get_or t k 0 ≤ v
  pub high : (j : ℕ) → suc j ≡ k → v < unit * get_or t j 0

found_in : (unit v : ℕ) (t : List ℕ) → 1 ≤ length t → get_or t (length t - 1) 0 ≡ 0 → Found unit v t (search unit v t)
unfolding search
found_in unit v [] h e = absurd (not-suc-le-zero h)
found_in unit v (x ∷ []) h e =
    chosen_lt (Found unit v (x ∷ [])) v (unit * x) (λ p. absurd (never p))
    (λ p. record { inside = omega arith; low = p; high = λ j q. absurd (omega arith) })
  where
    never : v < unit * x → ⊥
    never p = let z : unit * x ≡ 0 = ap (λ (y : ℕ). unit * y) e ∙ mul-zero unit in omega arith
found_in unit v (x ∷ y ∷ t) h e =
    let f = found_in unit v (y ∷ t) (omega arith) (sym (last_later x y t) ∙ e) in
    chosen_lt (Found unit v (x ∷ y ∷ t)) v (unit * x)
    (λ p. record { inside = omega (arith, f.inside); low = f.low; high = above f p })
    (λ p. record { inside = omega arith; low = p; high = λ j q. absurd (omega arith) })
  where
    above : Found unit v (y ∷ t) (search unit v (y ∷ t)) → v < unit * x → (j : ℕ) → suc j ≡ suc (search unit v (y ∷ t)) → v < unit * get_or (x ∷ y ∷ t) j 0
    above f p zero q = p
    above f p (suc j) q = f.high j (omega arith)

pub search_found : (scale unit v : ℕ) (t : List ℕ) → Icdf scale t → Found unit v t (search unit v t)
search_found scale unit v t h = found_in unit v t h.some h.ends

-- in a table no other symbol is found so
later_not : (scale unit v : ℕ) (t : List ℕ) (j k : ℕ) → Icdf scale t → Found unit v t j → Found unit v t k → j < k → ⊥
later_not scale unit v t j zero h f g l = not-suc-le-zero l
later_not scale unit v t j (suc k) h f g l =
    let m : unit * get_or t k 0 ≤ unit * get_or t j 0 = mul-le-mul_left unit (falls_between scale t h j k (omega arith) (omega (arith, g.inside))) in
    omega (arith, f.low, g.high k refl)

pub found_one : (scale unit v : ℕ) (t : List ℕ) (j k : ℕ) → Icdf scale t → Found unit v t j → Found unit v t k → j ≡ k
found_one scale unit v t j k h f g =
    let a = later_not scale unit v t j k h f g in
    let b = later_not scale unit v t k j h g f in
    omega arith
