-- Lines of text: a word or a number, further numbers each after a space, a newline. Assumes nothing.
use Rattle.std.specs.Prelude.{ℕ, List, [], ◌∷◌, ◌++◌, ℤ, pos, length}
use Rattle.numerals.specs.Decimal.{decimal}
use Rattle.listing.specs.Ascii.{ascii}

-- each number after a space, 32
unfoldable pub spaced : List ℤ → List ℕ
spaced [] = []
spaced (x ∷ xs) = (32 ∷ decimal x) ++ spaced xs

-- what comes first, then numbers; a newline is 10
unfoldable pub line : List ℕ → List ℤ → List ℕ
line first xs = first ++ (spaced xs ++ (10 ∷ []))

-- a word, how many numbers follow, and these
unfoldable pub counted : List ℕ → List ℤ → List ℕ
counted word xs = line word (pos (length xs) ∷ xs)

-- numbers alone
unfoldable pub numbers : List ℤ → List ℕ
numbers [] = 10 ∷ []
numbers (x ∷ xs) = line (decimal x) xs

-- all that a refused input prints
unfoldable pub refused_text : ℕ → List ℕ
refused_text n = line (ascii "refused") (pos n ∷ [])
