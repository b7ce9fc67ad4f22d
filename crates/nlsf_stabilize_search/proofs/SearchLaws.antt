-- The laws of the search: the first smallest step, a step's width, and a part's steps. Assumes nothing.
use Prim.Native.Nat.{ℕ, zero, suc, ◌+◌, ◌≤◌, ◌<◌, zero-le, suc-le-suc}
use mathlib.Core.Path.{◌≡◌, sym, subst, subst₂}
use mathlib.Core.List.{List, [], ◌∷◌}
use native.Mathlib.Omega.{arith}
use native.Mathlib.Nat.{not-suc-le-zero}
use borrow.Author.Count.{below_more}
use lib.IntN.{ℤ, pos, ◌-ℤ◌}
use lib.ListN.{length, take}
use lib.Seq.{get_or-take, length-take-le}
use mir.Syntax.{w32}
use mir.Val.{SFits}
use Rattle.ints.proofs.Sums.{up_diff, down_diff}
use Rattle.ints.proofs.Widths.{parts_fit}
use Rattle.ints.specs.Parts.{up, down}
use Rattle.spectrum.specs.Inner.{◌≼◌, First, step}
use Rattle.spectrum.specs.Values.{Mag, at}
use Rattle.nlsf_stabilize_search.specs.Inner.{Searched, UpTo}

-- ---- the first smallest of the numbers passed

-- z is the first smallest of the n numbers passed, and r its place
pub record Best (f : ℕ → ℤ) (n : ℕ) (z : ℤ) (r : ℕ) : Type 0 where
  pub number : z ≡ f r
  pub first : First f n r

pub best_one : (f : ℕ → ℤ) (z : ℤ) → z ≡ f 0 → Best f 1 z 0
best_one f z e =
    record {
      number = e;
      first = record {
        within = omega arith;
        least = λ k h. let q : k ≡ 0 = omega arith in subst (λ (j : ℕ). f 0 ≼ f j) (sym q) (omega arith);
        before = λ k h. absurd (not-suc-le-zero h);
      };
    }

-- one number more, d: where it is less, it and its place are the next, else those that were
module _ (f : ℕ → ℤ) (i r : ℕ) (z d : ℤ) (b : Best f i z r) (e : d ≡ f i) where
  pub best_newer : up d + down z < up z + down d → {y : ℤ} {s : ℕ} → y ≡ d → s ≡ i → Best f (i + 1) y s
  best_newer h p q =
      let less = subst₂ (λ (x y : ℤ). up x + down y < up y + down x) e b.number h in
      subst₂ (Best f (i + 1)) (sym p) (sym q)
      (record {
        number = e;
        first = record {
          within = omega arith;
          least = below_more (λ k. f i ≼ f k) i (λ k h. omega (arith, b.first.least k h)) (omega arith);
          before = λ k h. omega (arith, b.first.least k h);
        };
      })

  pub best_older : z ≼ d → {y : ℤ} {s : ℕ} → y ≡ z → s ≡ r → Best f (i + 1) y s
  best_older h p q =
      subst₂ (Best f (i + 1)) (sym p) (sym q)
      (record {
        number = b.number;
        first = record {
          within = omega (arith, b.first.within);
          least = below_more (λ k. f r ≼ f k) i b.first.least (subst₂ ◌≼◌ b.number e h);
          before = b.first.before;
        };
      })

-- ---- a value and a step fit 32 bits

pub value_fits : (a : ℤ) → Mag 65536 a → SFits w32 a
value_fits a m = parts_fit a (omega arith) (omega arith)

pub step_fits : (a b : ℤ) → Mag 65536 a → Mag 65536 b → SFits w32 (a -ℤ b)
step_fits a b m n = parts_fit (a -ℤ b) (omega (arith, up_diff a b)) (omega (arith, down_diff a b))

-- ---- the first n values are the values of the whole, and so are the steps between them

pub part_near : (m n : ℕ) (w : List ℤ) → ((k : ℕ) → Mag m (at w k)) → (k : ℕ) → Mag m (at (take n w) k)
part_near m zero w h k = (zero-le, zero-le)
part_near m (suc n) [] h k = (zero-le, zero-le)
part_near m (suc n) (x ∷ w) h zero = h 0
part_near m (suc n) (x ∷ w) h (suc k) = part_near m n w (λ j. h (suc j)) k

step_part : (w : List ℤ) (n k : ℕ) → k < n → step (take (suc n) w) k ≡ step w k
step_part w n k h = rw (get_or-take (suc n) w (suc k) (pos 0) (suc-le-suc h), get_or-take (suc n) w k (pos 0) (omega arith))

first_part : (w : List ℤ) (n r : ℕ) → First (step (take (suc n) w)) n r → First (step w) n r
first_part w n r s =
    let e = step_part w n r s.within in
    record {
      within = s.within;
      least = λ k h. subst₂ ◌≼◌ e (step_part w n k h) (s.least k h);
      before = λ k h.
          subst₂ (λ (x y : ℤ). up x + down y < up y + down x) e (step_part w n k (omega (arith, s.within))) (s.before k h);
    }

-- so a search of a part of t + 1 values is a search of the whole
pub part_searched : (w : List ℤ) (n t r : ℕ) → suc t ≤ length w → n < t → t ≤ 17
    → ((m : ℕ) → suc m ≡ length (take (suc t) w) → First (step (take (suc t) w)) m r) → Searched w n r
part_searched w n t r l p q h =
    record { to = t; past = p; most = q; first = first_part w t r (h t (sym (length-take-le (suc t) w l))) }

-- ---- one step more is not below 0

pub up_to_more : (w : List ℤ) (i : ℕ) → UpTo i w → at w i ≼ at w (suc i) → UpTo (i + 1) w
up_to_more w i u h = record { each = below_more (λ k. at w k ≼ at w (suc k)) i u.each h }
