-- What holds of every element of a list, as inner contracts say it. Assumes nothing.
use Rattle.std.specs.Prelude.{List, [], ◌∷◌}

module _ {A : Type 0} (P : A → Type 0) where
  abbrev pub All : List A → Type 0
  All [] = Unit {0}
  All (x ∷ xs) = P x × All xs
