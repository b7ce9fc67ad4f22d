-- A test at every element of a list, or at every number below a bound: one computation over a whole table, and its result at
-- each entry. Assumes nothing.
use Prim.Native.Nat.{ℕ, zero, suc, ◌+◌, ◌-◌, ◌≤◌, ◌<◌, zero-le, suc-le-suc}
use mathlib.Core.Path.{◌≡◌, refl, sym, ap, subst, ◌∙◌}
use mathlib.Core.Bool.{Bool, true, ◌&&◌}
use mathlib.Core.List.{List, [], ◌∷◌}
use mathlib.Core.Logic.{⊎_elim}
use native.Mathlib.Nat.{le_of_suc-le-suc, not-suc-le-zero, eq-or-lt_of_le}
use native.Mathlib.Omega.{arith}
use lib.ListN.{length, get_or, take, drop, length-take, length-drop}
use lib.Seq.{get_or-take, get_or-drop}
use Rattle.deciding.proofs.Both.{and_both, both_and}
use Rattle.deciding.specs.Inner.{Decides}
use Rattle.lists.specs.Every.{every}

module _ {ℓ} {A : Type ℓ} (f : A → Bool) where
  pub every_at : (xs : List A) (d : A) → every f xs ≡ true → (k : ℕ) → k < length xs → f (get_or xs k d) ≡ true
  every_at [] d e k h = absurd (not-suc-le-zero h)
  every_at (x ∷ xs) d e zero h = (and_both (f x) (every f xs) e).0
  every_at (x ∷ xs) d e (suc k) h = every_at xs d (and_both (f x) (every f xs) e).1 k (le_of_suc-le-suc h)

  pub at_every : (xs : List A) (d : A) → ((k : ℕ) → k < length xs → f (get_or xs k d) ≡ true) → every f xs ≡ true
  at_every [] d h = refl
  at_every (x ∷ xs) d h = both_and (f x) (every f xs) (h 0 (suc-le-suc zero-le)) (at_every xs d (λ k l. h (suc k) (suc-le-suc l)))

  -- a test that decides P, at the entries from a to e
  module _ (P : A → Type 0) (decided : (x : A) → Decides (f x) (P x)) (l : List A) (d : A) (a e : ℕ) (h : a ≤ e) (i : e ≤ length l) where
    size : length (take (e - a) (drop a l)) ≡ e - a
    size = omega (arith, length-take (e - a) (drop a l), length-drop a l)

    entry : (k : ℕ) → a ≤ k → k < e → get_or (take (e - a) (drop a l)) (k - a) d ≡ get_or l k d
    entry k p q =
        let j : a + (k - a) ≡ k = omega arith in
        get_or-take (e - a) (drop a l) (k - a) d (omega arith) ∙ get_or-drop a l (k - a) d ∙ ap (λ (m : ℕ). get_or l m d) j

    pub part_decides : Decides (every f (take (e - a) (drop a l))) ((k : ℕ) → a ≤ k → k < e → P (get_or l k d))
    part_decides =
        record {
          sure = λ t k p q.
              (decided (get_or l k d)).sure (sym (ap f (entry k p q)) ∙ every_at (take (e - a) (drop a l)) d t (k - a) (omega (arith, size)));
          seen = λ g. at_every (take (e - a) (drop a l)) d (λ k p.
              let q : k < e - a = omega (arith, size) in
              ap f (get_or-take (e - a) (drop a l) k d q ∙ get_or-drop a l k d)
              ∙ (decided (get_or l (a + k) d)).seen (g (a + k) (omega arith) (omega arith)));
        }

module _ (f : ℕ → Bool) where
  abbrev pub every_below : ℕ → Bool
  every_below zero = true
  every_below (suc n) = f n && every_below n

  pub below_at : (n : ℕ) → every_below n ≡ true → (k : ℕ) → k < n → f k ≡ true
  below_at zero e k h = absurd (not-suc-le-zero h)
  below_at (suc n) e k h =
      let p = and_both (f n) (every_below n) e in
      ⊎_elim (λ (q : k ≡ n). subst (λ (m : ℕ). f m ≡ true) (sym q) p.0) (λ (l : k < n). below_at n p.1 k l)
      (eq-or-lt_of_le (le_of_suc-le-suc h))
