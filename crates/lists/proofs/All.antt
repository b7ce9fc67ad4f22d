-- What holds of every element of a list. Assumes nothing.
use mathlib.Core.List.{List, [], ◌∷◌, ◌++◌}
use Rattle.lists.specs.Inner.{All}

module _ {A : Type 0} (P : A → Type 0) where
  pub all_snoc : (xs : List A) (x : A) → All P xs → P x → All P (xs ++ (x ∷ []))
  all_snoc [] x h p = (p, tt)
  all_snoc (y ∷ xs) x h p = (h.0, all_snoc xs x h.1 p)

  pub all_append : (xs ys : List A) → All P xs → All P ys → All P (xs ++ ys)
  all_append [] ys h k = k
  all_append (x ∷ xs) ys h k = (h.0, all_append xs ys h.1 k)
