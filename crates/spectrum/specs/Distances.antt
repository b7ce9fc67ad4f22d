-- Which gap a move of the stabiliser mends, and what the move stores (RFC 6716, section 4.2.7.5.4). Assumes nothing.
use Rattle.std.specs.Prelude.{ℕ, zero, suc, Bool, cond, List, [], ◌∷◌, eqb, ℤ, pos, ◌+ℤ◌, ◌-ℤ◌, length, set, take, drop}
use Rattle.std.specs.Int.Signed.{le_z}
use Rattle.spectrum.specs.Values.{at, top, min_z, held, half, total}

-- the difference of each place to its least gap, places 0 to the order; p stands before v
unfoldable pub diffs : ℤ → List ℤ → List ℤ → List ℤ
diffs p [] [] = []
diffs p [] (g ∷ gs) = (top -ℤ (p +ℤ g)) ∷ []
diffs p (v ∷ vs) [] = []
diffs p (v ∷ vs) (g ∷ gs) = (v -ℤ (p +ℤ g)) ∷ diffs v vs gs

-- the smallest
unfoldable pub least : List ℤ → ℤ
least [] = pos 0
least (x ∷ []) = x
least (x ∷ (y ∷ r)) = min_z x (least (y ∷ r))

-- the first place where it stands
unfoldable pub first_least : List ℤ → ℕ
first_least [] = 0
first_least (x ∷ []) = 0
first_least (x ∷ (y ∷ r)) = cond (le_z x (least (y ∷ r))) 0 (suc (first_least (y ∷ r)))

-- no gap is too small
unfoldable pub keeps : List ℤ → List ℤ → Bool
keeps g v = le_z (pos 0) (least (diffs (pos 0) v g))

-- the place of the smallest difference, the first on ties
unfoldable pub place : List ℤ → List ℤ → ℕ
place g v = first_least (diffs (pos 0) v g)

-- ---- a move at place i, in whole numbers

-- the limits of the centre: what the gaps before and behind leave
unfoldable pub lower : List ℤ → ℕ → ℤ
lower g i = total (take i g) +ℤ half (at g i)

unfoldable pub upper : List ℤ → ℕ → ℤ
upper g i = (top -ℤ total (drop (suc i) g)) -ℤ half (at g i)

-- the centre of a and b, which stand before and behind gap i: halved upward, held between the limits
unfoldable pub centre : List ℤ → ℕ → ℤ → ℤ → ℤ
centre g i a b = held (lower g i) (upper g i) (half (a +ℤ b +ℤ pos 1))

unfoldable pub new_low : List ℤ → ℕ → ℤ → ℤ → ℤ
new_low g i a b = centre g i a b -ℤ half (at g i)

unfoldable pub new_high : List ℤ → ℕ → ℤ → ℤ → ℤ
new_high g i a b = new_low g i a b +ℤ at g i

-- the first value to the first gap, the last to 32,768 less the last gap, or both values of a pair about their centre
unfoldable pub move : List ℤ → List ℤ → ℕ → List ℤ
move g v zero = set v 0 (at g 0)
move g v (suc j) =
    cond (eqb (suc j) (length v)) (set v j (top -ℤ at g (suc j)))
    (set (set v j (new_low g (suc j) (at v j) (at v (suc j)))) (suc j) (new_high g (suc j) (at v j) (at v (suc j))))
