-- A sum of gaps and a test of each, turn by turn. Assumes nothing.
use Prim.Native.Nat.{ℕ, suc, ◌+◌, ◌*◌, ◌≤◌, ◌<◌}
use mathlib.Core.Path.{◌≡◌, refl, sym, ap, ◌∙◌}
use mathlib.Core.Bool.{Bool, true, false, ◌&&◌}
use mathlib.Core.List.{List, [], ◌∷◌, ◌++◌}
use native.Mathlib.Omega.{arith}
use native.Mathlib.Numerals.{add-one}
use lib.IntN.{ℤ, pos, ◌+ℤ◌, +ℤ_idl, +ℤ_idr, +ℤ_assoc}
use lib.ListN.{length, take}
use lib.Seq.{take-suc}
use mir.Syntax.{w16, w32}
use mir.Val.{SFits, to_z, of_z}
use Rattle.ints.specs.Parts.{up, down}
use Rattle.ints.proofs.Sums.{up_sum, down_sum}
use Rattle.ints.proofs.Widths.{fits_up, fits_down, parts_fit}
use Rattle.lists.specs.Every.{every}
use Rattle.spectrum.specs.Values.{at, total}
use Rattle.spectrum.proofs.Widened.{read16}

-- after i numbers of 16 bits
pub record Near (i : ℕ) (z : ℤ) : Type 0 where
  pub high : up z ≤ 32768 * i
  pub low : down z ≤ 32768 * i

sum_snoc : (a : List ℤ) (x : ℤ) → total (a ++ (x ∷ [])) ≡ total a +ℤ x
unfolding total
sum_snoc [] x = +ℤ_idr x ∙ sym (+ℤ_idl x)
sum_snoc (y ∷ a) x = ap (λ (z : ℤ). y +ℤ z) (sum_snoc a x) ∙ sym (+ℤ_assoc y (total a) x)

pub sum_more : (s : List ℤ) (i : ℕ) → i < length s → total (take (i + 1) s) ≡ total (take i s) +ℤ at s i
sum_more s i h = rw (add-one) (ap total (take-suc s i (pos 0) h) ∙ sum_snoc (take i s) (at s i))

pub sum_next : (s : List ℤ) (i : ℕ) → i < length s → total (take (suc i) s) ≡ total (take i s) +ℤ at s i
sum_next s i h = let e : suc i ≡ i + 1 = omega arith in ap (λ (n : ℕ). total (take n s)) e ∙ sum_more s i h

-- the first number alone
pub sum_one : (s : List ℤ) → 0 < length s → total (take 1 s) ≡ at s 0
unfolding total
sum_one s h = sum_more s 0 h ∙ +ℤ_idl (at s 0)

-- one turn: the number read, and the sum with it
module _ (i : ℕ) (a x : ℤ) (near : Near i a) (l : i < 17) (f : SFits w16 x) where
  pub read : to_z w32 (of_z w32 (to_z w16 (of_z w16 x))) ≡ x
  read = read16 f

  pub nearer : Near (i + 1) (a +ℤ x)
  nearer =
      record {
        high = omega (arith, near.high, up_sum a x, fits_up x f);
        low = omega (arith, near.low, down_sum a x, fits_down x f);
      }

  pub fits : SFits w32 (a +ℤ x)
  fits = parts_fit (a +ℤ x) (omega (arith, nearer.high)) (omega (arith, nearer.low))

-- ---- the test

and_true : (a : Bool) → a && true ≡ a
and_true true = refl
and_true false = refl

and_assoc : (a b c : Bool) → a && (b && c) ≡ (a && b) && c
and_assoc true b c = refl
and_assoc false b c = refl

every_snoc : (f : ℤ → Bool) (a : List ℤ) (x : ℤ) → every f (a ++ (x ∷ [])) ≡ every f a && f x
every_snoc f [] x = and_true (f x)
every_snoc f (y ∷ a) x = ap (λ (t : Bool). f y && t) (every_snoc f a x) ∙ and_assoc (f y) (every f a) (f x)

pub every_more : (f : ℤ → Bool) (s : List ℤ) (i : ℕ) → i < length s → every f (take (i + 1) s) ≡ every f (take i s) && f (at s i)
every_more f s i h = rw (add-one) (ap (every f) (take-suc s i (pos 0) h) ∙ every_snoc f (take i s) (at s i))
