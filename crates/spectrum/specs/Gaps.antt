-- Gap sets: gap i is the least distance of value i from value i - 1, where 0 stands before the first value and 32,768
-- behind the last (RFC 6716, section 4.2.7.5.4). A vector of n values has n + 1 gaps. Assumes nothing.
use Rattle.std.specs.Prelude.{ℕ, ◌≤◌, ◌≡◌, Bool, ◌&&◌, List, [], ◌∷◌, ℤ, pos}
use Rattle.std.specs.Int.Signed.{le_z}
use Rattle.ints.specs.Parts.{up, down}
use Rattle.lists.specs.Every.{every}
use Rattle.spectrum.specs.Values.{at, top, total}

-- document 01's rule: no gap is negative, the last is 1 or more, together they are at most 32,768
unfoldable pub good_gaps : ℕ → List ℤ → Bool
good_gaps n g = every (le_z (pos 0)) g && (le_z (pos 1) (at g n) && le_z (total g) top)

-- the rule as a fact, gap by gap
unfoldable pub Good : List ℤ → Type 0
Good [] = ⊥
Good (g ∷ []) = (down g ≡ 0) × (1 ≤ up g)
Good (g ∷ (h ∷ gs)) = (down g ≡ 0) × Good (h ∷ gs)

pub record Ruled (g : List ℤ) : Type 0 where
  pub good : Good g
  pub most : up (total g) ≤ 32768
