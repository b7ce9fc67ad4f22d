-- Worked cases of the operations on whole numbers, and one theorem that they all hold: a wrapping sum (P13 of document 01 among them), a
-- floored half and a quotient toward zero. Assumes nothing.
use mathlib.Core.Path.{◌≡◌, refl}
use mathlib.Core.List.{List, [], ◌∷◌, map}
use lib.IntN.{ℤ, pos, negsuc, ◌+ℤ◌}
use lib.Signed.{quot_z, shr_z}
use Rattle.ints.specs.Wrap.{wrap16}

pub data Case : Type 0 where
  wrapped : ℤ → ℤ → ℤ → Case
  halved : ℤ → ℤ → Case
  quotient : ℤ → ℤ → ℤ → Case

abbrev pub stated : Case → ℤ
stated (wrapped a b r) = r
stated (halved a r) = r
stated (quotient a b r) = r

abbrev pub computed : Case → ℤ
computed (wrapped a b r) = wrap16 (a +ℤ b)
computed (halved a r) = shr_z a 2
computed (quotient a b r) = quot_z a b

unfoldable pub cases : List Case
cases =
    wrapped (pos 32767) (pos 11) (negsuc 32757) ∷
    wrapped (negsuc 32767) (negsuc 7) (pos 32760) ∷
    wrapped (pos 32767) (pos 0) (pos 32767) ∷
    halved (negsuc 2) (negsuc 1) ∷
    quotient (negsuc 2) (pos 2) (negsuc 0) ∷
    []

pub cases_hold : map computed cases ≡ map stated cases
unfolding cases wrap16
cases_hold = refl
