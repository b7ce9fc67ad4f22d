-- The values of a line spectrum (RFC 6716, section 4.2.7.5): whole numbers, in 32,768ths of half the sampling rate. A
-- vector is a list of them, what a `&[i16]` is in a contract. Assumes nothing.
use Rattle.std.specs.Prelude.{ℕ, ◌≤◌, cond, List, [], ◌∷◌, ℤ, pos, ◌+ℤ◌, get_or}
use Rattle.std.specs.Int.Signed.{lt_z, le_z, shr_z}
use Rattle.ints.specs.Parts.{up, down}

abbrev pub at : List ℤ → ℕ → ℤ
at s i = get_or s i (pos 0)

-- the end of the scale
abbrev pub top : ℤ
top = pos 32768

unfoldable pub max_z : ℤ → ℤ → ℤ
max_z a b = cond (le_z a b) b a

unfoldable pub min_z : ℤ → ℤ → ℤ
min_z a b = cond (le_z a b) a b

-- z, held between lo and hi
unfoldable pub held : ℤ → ℤ → ℤ → ℤ
held lo hi z = cond (lt_z hi z) hi (cond (lt_z z lo) lo z)

-- half, rounded down
abbrev pub half : ℤ → ℤ
half z = shr_z z 2

unfoldable pub total : List ℤ → ℤ
total [] = pos 0
total (x ∷ xs) = x +ℤ total xs

-- z lies in -n .. n
abbrev pub Mag : ℕ → ℤ → Type 0
Mag n z = (up z ≤ n) × (down z ≤ n)

-- each value lies in -lo .. hi
unfoldable pub Within : ℕ → ℕ → List ℤ → Type 0
Within lo hi [] = Unit {0}
Within lo hi (x ∷ v) = ((down x ≤ lo) × (up x ≤ hi)) × Within lo hi v
