-- The signs that a block says. Assumes nothing.
use Rattle.std.specs.Prelude.{ℕ, zero, suc, List, [], ◌∷◌, ◌++◌, ℤ, pos, negsuc}

-- a pulse of 0 says nothing
abbrev pub sign_of : ℤ → List ℕ
sign_of (pos zero) = []
sign_of (pos (suc m)) = 1 ∷ []
sign_of (negsuc m) = 0 ∷ []

unfoldable pub signs_said : List ℤ → List ℕ
signs_said [] = []
signs_said (z ∷ zs) = sign_of z ++ signs_said zs
