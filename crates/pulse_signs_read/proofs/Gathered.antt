-- The places of a block that have a pulse, gathered in their order. Assumes nothing.
use Prim.Native.Nat.{ℕ, zero, suc, ◌+◌, ◌<◌, ◌≤◌}
use mathlib.Core.Path.{◌≡◌, refl, ap}
use mathlib.Core.List.{List}
use native.Mathlib.Numerals.{add-one}
use native.Mathlib.Omega.{arith}
use lib.IntN.{ℤ}
use lib.ListN.{length, get_or, set}
use lib.Seq.{get_or-set_same, get_or-set_other}
use Rattle.deciding.proofs.Choice.{by_lt}
use Rattle.pulse_signs_read.specs.Inner.{mag, Bare, Next, behind, Gathered}

pub gathered_start : (s : List ℤ) (at : List ℕ) → Gathered s at 0 0
gathered_start s at =
    record {
      count = omega arith;
      below = λ t h. absurd (omega arith);
      next = λ t h. absurd (omega arith);
      to = omega arith;
      rest = λ i h l. absurd (omega arith);
    }

-- a place stored behind the first n leaves them
behind_kept : (at : List ℕ) (n k t : ℕ) → t ≤ n → behind (set at n k) t ≡ behind at t
behind_kept at n k zero h = refl
behind_kept at n k (suc t) h = ap suc (get_or-set_other at n t k 0 (omega arith))

module _ (s : List ℤ) (at : List ℕ) (n k : ℕ) (g : Gathered s at n k) where
  same : (t : ℕ) → t < n → get_or (set at n k) t 0 ≡ get_or at t 0
  same t h = get_or-set_other at n t k 0 (omega arith)

  next_kept : (t : ℕ) → t < n → Next s (behind (set at n k) t) (get_or (set at n k) t 0)
  next_kept t h = rw (behind_kept at n k t (omega arith), same t h) (g.next t h)

  longer : mag s k ≡ 0 → Bare s (behind at n) (suc k)
  longer z i a b = by_lt i k (λ l. g.rest i a l) (λ l. let e : i ≡ k = omega arith in rw e z)

  pub gathered_none : mag s k ≡ 0 → Gathered s (set at n k) n (k + 1)
  gathered_none z =
      rw add-one
      (record {
        count = omega (arith, g.count);
        below = λ t h. omega (arith, same t h, g.below t h);
        next = next_kept;
        to = omega (arith, behind_kept at n k n (omega arith), g.to);
        rest = rw (behind_kept at n k n (omega arith)) (longer z);
      })

  stored : n < length at → get_or (set at n k) n 0 ≡ k
  stored l = get_or-set_same at n k 0 l

  pub gathered_some : n < length at → 1 ≤ mag s k → Gathered s (set at n k) (n + 1) (k + 1)
  gathered_some l p =
      rw (add-one n, add-one k)
      (record {
        count = omega (arith, g.count);
        below = λ t h. by_lt t n (λ q. omega (arith, same t q, g.below t q)) (λ q. let e : t ≡ n = omega arith in rw e (omega (arith, stored l)));
        next = λ t h. by_lt t n (λ q. next_kept t q) (λ q.
            let e : t ≡ n = omega arith in
            rw (e, behind_kept at n k n (omega arith), stored l) (record { from = g.to; bare = g.rest; some = p }));
        to = omega (arith, stored l);
        rest = λ i a b. absurd (omega (arith, stored l));
      })
