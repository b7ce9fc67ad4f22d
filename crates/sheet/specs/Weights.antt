-- The weights of a spectrum vector (RFC 6716, section 4.2.7.5.3). Assumes nothing.
use Rattle.std.specs.Prelude.{ℕ, ◌+◌, ◌-◌, ◌*◌, ◌/◌, ◌%◌, ◌^◌, Bool, cond, ◌&&◌, List, [], ◌∷◌, eqb, ltb, leb}
use Rattle.bitlen.specs.Length.{bit_length}

-- the square of the weight of x between its neighbours a and z
abbrev pub square : ℕ → ℕ → ℕ → ℕ
square a x z = (1024 / (x - a) + 1024 / (z - x)) * 2 ^ 16

-- a square root of s, of bit length i: a power of two, or one times the root of two, and a line between them
unfoldable pub root_at : ℕ → ℕ → ℕ
root_at s i =
    let f = s / 2 ^ (i - 8) % 128 in
    let y = cond (eqb (i % 2) 1) 32768 46214 / 2 ^ ((32 - i) / 2) in
    y + 213 * f * y / 2 ^ 16

unfoldable pub weight : ℕ → ℕ → ℕ → ℕ
weight a x z = root_at (square a x z) (bit_length (square a x z))

-- the weights of the values behind a
unfoldable pub weights_from : ℕ → List ℕ → List ℕ
weights_from a [] = []
weights_from a (x ∷ []) = weight a x 256 ∷ []
weights_from a (x ∷ y ∷ t) = weight a x y ∷ weights_from x (y ∷ t)

-- the weights of a vector: 0 stands before its first value and 256 behind its last
unfoldable pub weights_of : List ℕ → List ℕ
weights_of v = weights_from 0 v

-- whether each value lies 1 to m above the one before it, the first above a, and 256 as far above the last: then no
-- difference of neighbours is 0
unfoldable pub rises_by : ℕ → ℕ → List ℕ → Bool
rises_by m a [] = ltb a 256 && leb 256 (a + m)
rises_by m a (x ∷ t) = (ltb a x && leb x (a + m)) && rises_by m x t

-- both books' vectors rise from 0 to 256 in such steps (`narrow_rises`, `wide_rises`)
abbrev pub rises : List ℕ → Bool
rises v = rises_by 47 0 v
