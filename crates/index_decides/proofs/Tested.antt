-- What the tests of fields decide. Assumes nothing.
use Prim.Native.Nat.{ℕ, suc, ◌-◌, ◌*◌, ◌^◌, ◌≤◌, ◌<◌, zero-le}
use mathlib.Core.Path.{◌≡◌, sym, ap, subst, ◌∙◌}
use mathlib.Core.Bool.{Bool, true, false, ◌&&◌, ◌||◌}
use mathlib.Core.List.{List}
use native.Mathlib.Omega.{arith}
use borrow.Author.Tests.{eqb-true, eq-eqb}
use lib.Dec.{eqb}
use lib.IntN.{ℤ, pos, negsuc, nat_abs}
use lib.ListN.{length, get_or, take, drop}
use mir.Syntax.{Width}
use mir.Val.{SFits, hbits, of_z, to_z}
use mir.Facts.{to_z-of_z, to_z_pos}
use Rattle.deciding.specs.Inner.{Decides}
use Rattle.deciding.proofs.Decides.{decides_as, decides_both, decides_unless}
use Rattle.lists.specs.Every.{every}
use Rattle.lists.proofs.EveryLaws.{part_decides}
use Rattle.ranges.specs.InRange.{in_range}
use Rattle.ranges.proofs.InRangeLaws.{between_decides, around_decides}
use Rattle.silk.specs.declared.Indices.{Indices}
use Rattle.silk.specs.Inner.Indices.{Subframes, Upto, first_most, WritesGains, WritesKind}
use Rattle.silk.proofs.IndexRows.{subframes_least, subframes_most}

-- ---- one number

pub upto_tested : (n : ℕ) (z : ℤ) → Decides (in_range (pos 0) (pos n) z) (Upto n z)
upto_tested n z =
    decides_as (λ p. record { least = p.0; most = p.2 }) (λ u. (u.least, zero-le, u.most)) (between_decides 0 n z)

-- code compares the bits
pub equal_tested : {w : Width} (n : ℕ) (z : ℤ) → SFits w z → n < 2 ^ hbits w → Decides (eqb (of_z w z) n) (z ≡ pos n)
equal_tested {w} n z f h =
    record {
      sure = λ e. sym (to_z-of_z f) ∙ ap (to_z w) (eqb-true _ _ e) ∙ to_z_pos w h;
      seen = λ e. eq-eqb _ _ (ap (of_z w) e);
    }

-- ---- numbers in a row

-- the entries of l from a to e
pub uptos_tested : (most : ℕ) (l : List ℤ) (a e : ℕ) → a ≤ e → e ≤ length l
    → Decides (every (in_range (pos 0) (pos most)) (take (e - a) (drop a l))) ((k : ℕ) → a ≤ k → k < e → Upto most (get_or l k (pos 0)))
uptos_tested most l = part_decides (in_range (pos 0) (pos most)) (Upto most) (upto_tested most) l (pos 0)

pub gains_tested : (mode n : ℕ) (x : Indices) → Subframes n → length x.gains ≡ 4
    → Decides (in_range (pos 0) (pos (first_most mode)) (get_or x.gains 0 (pos 0)) && every (in_range (pos 0) (pos 40)) (take (n - 1) (drop 1 x.gains)))
    (WritesGains mode n x)
gains_tested mode n x f h =
    decides_as (λ p. record { first = p.0; others = p.1 }) (λ w. (w.first, w.others))
    (decides_both (upto_tested (first_most mode) (get_or x.gains 0 (pos 0)))
    (λ p. uptos_tested 40 x.gains 1 n (omega (arith, subframes_least f)) (omega (arith, subframes_most f))))

-- the residuals of n places
pub residuals_tested : (n : ℕ) (l : List ℤ) → n < length l
    → Decides (every (in_range (negsuc 9) (pos 10)) (take (suc n - 1) (drop 1 l))) ((k : ℕ) → 1 ≤ k → k ≤ n → nat_abs (get_or l k (pos 0)) ≤ 10)
residuals_tested n l h =
    decides_as (λ p k a b. p k a (omega arith)) (λ p k a b. p k a (omega arith))
    (part_decides (in_range (negsuc 9) (pos 10)) (λ z. nat_abs z ≤ 10) (around_decides 9) l (pos 0) 1 (suc n) (omega arith) h)

-- the period, and a filter of it for each of n subframes; most is its last filter
abbrev Filters : ℕ → List ℤ → ℤ → Type 0
Filters n l period = (k : ℕ) → k < n → Upto (8 * 2 ^ nat_abs period - 1) (get_or l k (pos 0))

pub filters_tested : (n : ℕ) (l : List ℤ) (period most : ℤ) → n ≤ length l → (Upto 2 period → most ≡ pos (8 * 2 ^ nat_abs period - 1))
    → Decides (in_range (pos 0) (pos 2) period && every (in_range (pos 0) most) (take (n - 0) (drop 0 l))) (Upto 2 period × Filters n l period)
filters_tested n l period most h e =
    decides_both (upto_tested 2 period) (λ u.
    subst (λ (m : ℤ). Decides (every (in_range (pos 0) m) (take (n - 0) (drop 0 l))) (Filters n l period)) (sym (e u))
    (decides_as (λ p k b. p k zero-le b) (λ p k a b. p k b) (uptos_tested (8 * 2 ^ nat_abs period - 1) l 0 n zero-le h)))

-- ---- the type: as the signal type goes with the active flag

pub kind_tested : (active : ℕ) (x : Indices) → active < 2
    → Decides (in_range (pos active) (pos (active * 2)) x.signal && in_range (pos 0) (pos 1) x.offset) (WritesKind active x)
kind_tested active x h =
    decides_as
    (λ p. record {
      kind = record { least = omega (arith, p.0.1); most = omega (arith, p.0.2, p.1.most) };
      signal = record { least = p.0.0; most = omega (arith, p.0.2) };
      offset = p.1;
    })
    (λ w. ((w.signal.least, omega (arith, w.kind.least, w.offset.most), omega (arith, w.kind.most)), w.offset))
    (decides_both (between_decides active (active * 2) x.signal) (λ p. upto_tested 1 x.offset))

-- ---- a number from 0 to n that has to be v where P holds: t says that P does not

pub fixed_tested : {t u : Bool} {P : Type 0} (n v : ℕ) (z : ℤ) → (t ≡ true → P → ⊥) → (t ≡ false → P) → Decides u (z ≡ pos v)
    → Decides (in_range (pos 0) (pos n) z && (t || u)) (Upto n z × (P → z ≡ pos v))
fixed_tested n v z free owed d = decides_both (upto_tested n z) (λ p. decides_unless free owed d)
