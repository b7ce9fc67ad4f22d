-- The packet that is written has the length asked for, and no packet of the same sizes is shorter than the shortest. Assumes nothing.
use Prim.Native.Nat.{ℕ, ◌+◌, ◌%◌, ◌≤◌, ◌<◌}
use mathlib.Core.Path.{◌≡◌, refl, ap}
use mathlib.Core.Bool.{Bool, true, false}
use mathlib.Core.List.{List, [], ◌∷◌}
use native.Mathlib.Omega.{arith}
use borrow.Author.Tests.{lt-ltb, le-ltb}
use lib.Dec.{eqb}
use lib.ListN.{length}
use Rattle.deciding.proofs.Choice.{chosen, by_lt}
use Rattle.framing.specs.Lengths.{length_codes, total}
use Rattle.framing.specs.Writing.{but_last, laid, alike, shortest_code, bare, shortest}
use Rattle.framing.proofs.Kept.{by_bool}
use Rattle.framing.proofs.Laid.{Layout, own_of, codes, codes_varied, laid_size}

-- ---- the code of the shortest

pub code_most : (ns : List ℕ) → shortest_code ns ≤ 3
unfolding shortest_code
code_most [] = omega arith
code_most (a ∷ []) = omega arith
code_most (a ∷ (b ∷ [])) = chosen (λ (n : ℕ). n ≤ 3) (eqb b a) (λ e. omega arith) (λ e. omega arith)
code_most (a ∷ (b ∷ (c ∷ r))) = omega arith

-- arrangements 0 and 1 have frames of one size, arrangement 2 has two that differ
pub record Coded (ns : List ℕ) : Type 0 where
  pub one : shortest_code ns ≡ 0 → (length ns ≡ 1) × (alike ns ≡ true)
  pub pair : shortest_code ns ≡ 1 → (length ns ≡ 2) × (alike ns ≡ true)
  pub two : shortest_code ns ≡ 2 → (length ns ≡ 2) × (alike ns ≡ false)

pub coded : (ns : List ℕ) → Coded ns
unfolding shortest_code alike
coded [] = record { one = λ e. absurd (omega arith); pair = λ e. absurd (omega arith); two = λ e. absurd (omega arith) }
coded (a ∷ []) = record { one = λ e. (refl, refl); pair = λ e. absurd (omega arith); two = λ e. absurd (omega arith) }
coded (a ∷ (b ∷ [])) =
    by_bool (eqb b a)
    (λ t. record {
      one = λ e. absurd (omega (arith, rw t at e));
      pair = λ e. (refl, rw t);
      two = λ e. absurd (omega (arith, rw t at e));
    })
    (λ t. record {
      one = λ e. absurd (omega (arith, rw t at e));
      pair = λ e. absurd (omega (arith, rw t at e));
      two = λ e. (refl, rw t);
    })
coded (a ∷ (b ∷ (c ∷ r))) = record { one = λ e. absurd (omega arith); pair = λ e. absurd (omega arith); two = λ e. absurd (omega arith) }

-- one frame or two need no count byte
few_code : (ns : List ℕ) → 1 ≤ length ns → length ns ≤ 2 → shortest_code ns < 3
unfolding shortest_code
few_code [] h l = absurd (omega arith)
few_code (a ∷ []) h l = omega arith
few_code (a ∷ (b ∷ [])) h l = chosen (λ (n : ℕ). n < 3) (eqb b a) (λ e. omega arith) (λ e. omega arith)
few_code (a ∷ (b ∷ (c ∷ r))) h l = absurd (omega arith)

pub shortest_less : (ns : List ℕ) → shortest_code ns < 3 → shortest ns ≡ 1 + bare ns
unfolding shortest
shortest_less ns h = rw (lt-ltb _ _ h)

pub shortest_three : (ns : List ℕ) → 3 ≤ shortest_code ns → shortest ns ≡ 2 + bare ns
unfolding shortest
shortest_three ns h = rw (le-ltb _ _ h)

pub shortest_range : (ns : List ℕ) → (1 + bare ns ≤ shortest ns) × (shortest ns ≤ 2 + bare ns)
shortest_range ns =
    by_lt (shortest_code ns) 3 (λ h. let e : shortest ns ≡ 1 + bare ns = shortest_less ns h in omega arith)
    (λ h. let e : shortest ns ≡ 2 + bare ns = shortest_three ns h in omega arith)

pub bare_alike : (ns : List ℕ) → alike ns ≡ true → bare ns ≡ total ns
unfolding bare
bare_alike ns e = rw e (omega arith)

pub bare_varied : (ns : List ℕ) → alike ns ≡ false → bare ns ≡ length (length_codes (but_last ns)) + total ns
unfolding bare
bare_varied ns e = rw e

bare_most : (ns : List ℕ) → bare ns ≤ length (length_codes (but_last ns)) + total ns
bare_most ns =
    by_bool (alike ns) (λ e. let b : bare ns ≡ total ns = bare_alike ns e in omega arith) (λ e. omega (arith, bare_varied ns e))

-- ---- the shortest is shortest

module _ (t : ℕ) (v : Bool) (k : ℕ) (ns frames tail : List ℕ) (y : Layout t v k ns frames tail) where
  own_few : 3 ≤ shortest_code ns → own_of t ≡ 2
  own_few h =
      by_lt (t % 4) 1 (λ a. let c : t % 4 ≡ 0 = omega arith in absurd (omega (arith, few_code ns y.some (omega (arith, (y.one c).0)))))
      (λ a.
      by_lt (t % 4) 2 (λ b. let c : t % 4 ≡ 1 = omega arith in absurd (omega (arith, few_code ns y.some (omega (arith, (y.pair c).0)))))
      (λ b.
      by_lt (t % 4) 3 (λ d. let c : t % 4 ≡ 2 = omega arith in absurd (omega (arith, few_code ns y.some (omega (arith, (y.two c).0)))))
      (λ d. let c : t % 4 ≡ 3 = omega arith in rw c)))

  own_least : 1 ≤ own_of t
  own_least =
      by_lt (t % 4) 1 (λ a. let c : t % 4 ≡ 0 = omega arith in rw c (omega arith))
      (λ a.
      by_lt (t % 4) 2 (λ b. let c : t % 4 ≡ 1 = omega arith in rw c (omega arith))
      (λ b.
      by_lt (t % 4) 3 (λ d. let c : t % 4 ≡ 2 = omega arith in rw c (omega arith))
      (λ d. let c : t % 4 ≡ 3 = omega arith in rw c (omega arith))))

  codes_least : bare ns ≤ length (codes t v k ns frames tail y) + total ns
  codes_least =
      by_bool v (λ e. omega (arith, ap length (codes_varied t v k ns frames tail y e), bare_most ns))
      (λ e. let b : bare ns ≡ total ns = bare_alike ns (y.equal e) in omega arith)

  pub shortest_least : shortest ns ≤ length (laid t v k ns frames tail)
  shortest_least =
      by_lt (shortest_code ns) 3
      (λ h. let e : shortest ns ≡ 1 + bare ns = shortest_less ns h in omega
      (arith, laid_size t v k ns frames tail y, codes_least, own_least))
      (λ h.
      let e : shortest ns ≡ 2 + bare ns = shortest_three ns h in
      let o : own_of t ≡ 2 = own_few h in
      omega (arith, laid_size t v k ns frames tail y, codes_least))
