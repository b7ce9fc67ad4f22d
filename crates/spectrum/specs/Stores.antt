-- The crate's stores: its moves keep 16 bits of every number that they store (document 01, "Line spectra"). No call is
-- defined by this form since document 02, item 6; it is what the comparison with the crate speaks of. Assumes nothing.
use Rattle.std.specs.Prelude.{ℕ, zero, suc, Bool, true, ◌&&◌, cond, List, [], ◌∷◌, eqb, ℤ, pos, negsuc, ◌+ℤ◌, ◌-ℤ◌, length, set}
use Rattle.std.specs.Int.Signed.{le_z}
use Rattle.ints.specs.Wrap.{wrap16}
use Rattle.lists.specs.Every.{every}
use Rattle.spectrum.specs.Distances.{keeps, place, centre}
use Rattle.spectrum.specs.Fallback.{fallback}
use Rattle.spectrum.specs.Stabilising.{Stable, one_more}
use Rattle.spectrum.specs.Values.{at, top, half}

-- ---- the crate's stabiliser

unfoldable pub low16 : List ℤ → ℕ → ℤ → ℤ → ℤ
low16 g i a b = wrap16 (wrap16 (centre g i a b) -ℤ half (at g i))

unfoldable pub high16 : List ℤ → ℕ → ℤ → ℤ → ℤ
high16 g i a b = wrap16 (low16 g i a b +ℤ at g i)

unfoldable pub move16 : List ℤ → List ℤ → ℕ → List ℤ
move16 g v zero = set v 0 (wrap16 (at g 0))
move16 g v (suc j) =
    cond (eqb (suc j) (length v)) (set v j (wrap16 (top -ℤ at g (suc j))))
    (set (set v j (low16 g (suc j) (at v j) (at v (suc j)))) (suc j) (high16 g (suc j) (at v j) (at v (suc j))))

unfoldable pub run16 : ℕ → List ℤ → List ℤ → Stable
run16 zero g v = record { vector = fallback g v; moves = 0 }
run16 (suc n) g v = cond (keeps g v) (record { vector = v; moves = 0 }) (one_more (run16 n g (move16 g v (place g v))))

unfoldable pub stabilise16 : List ℤ → List ℤ → Stable
stabilise16 g v = run16 20 g v

-- ---- whether one of its stores leaves 16 bits

unfoldable pub fits16 : ℤ → Bool
fits16 z = le_z (negsuc 32767) z && le_z z (pos 32767)

-- what its move at place i stores, in order, before 16 bits are kept
unfoldable pub stores : List ℤ → List ℤ → ℕ → List ℤ
stores g v zero = at g 0 ∷ []
stores g v (suc j) =
    cond (eqb (suc j) (length v)) ((top -ℤ at g (suc j)) ∷ [])
    (centre g (suc j) (at v j) (at v (suc j)) ∷
    (wrap16 (centre g (suc j) (at v j) (at v (suc j))) -ℤ half (at g (suc j))) ∷
    (low16 g (suc j) (at v j) (at v (suc j)) +ℤ at g (suc j)) ∷ [])

-- none of the stores of at most n moves does
unfoldable pub calm : ℕ → List ℤ → List ℤ → Bool
calm zero g v = true
calm (suc n) g v =
    cond (keeps g v) true (every fits16 (stores g v (place g v)) && calm n g (move16 g v (place g v)))
