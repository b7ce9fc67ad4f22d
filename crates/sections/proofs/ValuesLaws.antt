-- Laws of `specs/Values`. Assumes nothing.
use Prim.Native.Nat.{ℕ, zero, suc, ◌+◌, ◌-◌, ◌*◌, ◌<◌, ◌≤◌}
use mathlib.Core.Path.{◌≡◌, refl, sym, ap, ◌∙◌}
use mathlib.Core.List.{List, [], ◌∷◌, ◌++◌}
use native.Mathlib.Omega.{arith}
use mathlib.Core.Logic.{inl, inr}
use Rattle.std.proofs.lemmas.Bool.{cases_lt}
use Rattle.std.specs.Int.{from_be_bytes}
use lib.IntN.{ℤ, pos, negsuc}
use mir.Syntax.{w16}
use mir.Val.{to_z}
use mir.Facts.{to_z_pos, to_z-neg}
use Rattle.ints.specs.Wrap.{wrap16}
use Rattle.ints.proofs.Wrapping.{wrap16_is}
use Rattle.sections.specs.Values.{value_at, values_at}

-- one value more
pub values_more : (s : List ℕ) (i n : ℕ) → values_at s i n ++ (value_at s (i + 2 * n) ∷ []) ≡ values_at s i (suc n)
unfolding values_at
values_more s i zero = let e : i + 2 * 0 ≡ i = omega arith in ap (λ (k : ℕ). value_at s k ∷ []) e
values_more s i (suc n) =
    let e : i + 2 * suc n ≡ i + 2 + 2 * n = omega arith in
    ap (λ (k : ℕ). value_at s i ∷ (values_at s (i + 2) n ++ (value_at s k ∷ []))) e ∙ ap (λ (l : List ℤ). value_at s i ∷ l) (values_more s (i + 2) n)

-- 16 bits, read as a number with a sign
pub read_signed : (n : ℕ) → n < 65536 → to_z w16 n ≡ wrap16 (pos n)
read_signed n h = elim (cases_lt n 32768) [ inl p ↦ low p | inr p ↦ high p ]
  where
    low : n < 32768 → to_z w16 n ≡ wrap16 (pos n)
    low p = to_z_pos w16 p ∙ sym (wrap16_is (pos n) (pos n) 0 0 refl (omega arith) (omega arith))

    high : 32768 ≤ n → to_z w16 n ≡ wrap16 (pos n)
    high p =
        let k = 65535 - n in
        let e : 65536 - suc k ≡ n = omega arith in
        rw e at (to_z-neg w16 k (omega arith)) ∙ sym (wrap16_is (pos n) (negsuc k) 0 1 (omega arith) (omega arith) (omega arith))

-- the high byte first
pub two_bytes : (h l : ℕ) → h < 256 → l < 256 → to_z w16 (from_be_bytes w16 (h ∷ l ∷ [])) ≡ wrap16 (pos (256 * h + l))
two_bytes h l p q =
    let e : from_be_bytes w16 (h ∷ l ∷ []) ≡ 256 * h + l = omega arith in
    ap (to_z w16) e ∙ read_signed (256 * h + l) (omega arith)
