-- A test at every element of a list. Assumes nothing.
use Rattle.std.specs.Prelude.{Bool, true, ◌&&◌, List, [], ◌∷◌}

module _ {ℓ} {A : Type ℓ} (f : A → Bool) where
  abbrev pub every : List A → Bool
  every [] = true
  every (x ∷ xs) = f x && every xs
