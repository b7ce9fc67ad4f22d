-- Where no store of the crate leaves 16 bits, its stabiliser gives the vector and the number of moves of whole numbers. Assumes nothing.
use Prim.Native.Nat.{ℕ, zero, suc}
use mathlib.Core.Path.{◌≡◌, refl, sym, ap, ap₂, ◌∙◌}
use mathlib.Core.Bool.{Bool, true, false, ◌&&◌, cond}
use mathlib.Core.List.{List, [], ◌∷◌}
use native.Mathlib.Omega.{arith}
use lib.Dec.{eqb}
use lib.IntN.{ℤ, pos, negsuc, ◌+ℤ◌, ◌-ℤ◌}
use lib.Signed.{le_z}
use lib.ListN.{length, set, length-set}
use Rattle.ints.proofs.Order.{parts_alone, le_z_true}
use Rattle.ints.proofs.Wrapping.{wrap16_is}
use Rattle.ints.specs.Wrap.{wrap16}
use Rattle.deciding.proofs.Both.{and_both}
use Rattle.deciding.proofs.Choice.{chosen}
use Rattle.lists.specs.Every.{every}
use Rattle.spectrum.specs.Distances.{keeps, place, centre, new_low, new_high, move}
use Rattle.spectrum.specs.Stabilising.{one_more, run, stabilise}
use Rattle.spectrum.specs.Statement.{SameStabiliser}
use Rattle.spectrum.specs.Stores.{low16, high16, move16, run16, stabilise16, fits16, stores, calm}
use Rattle.spectrum.specs.Values.{at, top, half}

pub fits_kept : (z : ℤ) → fits16 z ≡ true → wrap16 z ≡ z
unfolding fits16
fits_kept z e =
    let b = and_both (le_z (negsuc 32767) z) (le_z z (pos 32767)) e in
    wrap16_is z z 0 0 refl (omega (arith, parts_alone z, le_z_true z (pos 32767) b.1))
    (omega (arith, parts_alone z, le_z_true (negsuc 32767) z b.0))

-- what the move's last branch stores
abbrev pair_stores : List ℤ → ℕ → ℤ → ℤ → List ℤ
pair_stores g i a b = centre g i a b ∷ ((wrap16 (centre g i a b) -ℤ half (at g i)) ∷ ((low16 g i a b +ℤ at g i) ∷ []))

apart_same : (g : List ℤ) (i : ℕ) (a b : ℤ) → every fits16 (pair_stores g i a b) ≡ true
    → (low16 g i a b ≡ new_low g i a b) × (high16 g i a b ≡ new_high g i a b)
unfolding new_low new_high low16 high16
apart_same g i a b e =
    let c = centre g i a b in
    let x = wrap16 c -ℤ half (at g i) in
    let y = wrap16 x +ℤ at g i in
    let e1 = and_both (fits16 c) (fits16 x && (fits16 y && true)) e in
    let e2 = and_both (fits16 x) (fits16 y && true) e1.1 in
    let e3 = and_both (fits16 y) true e2.1 in
    let p : wrap16 x ≡ c -ℤ half (at g i) = fits_kept x e2.0 ∙ ap (λ (z : ℤ). z -ℤ half (at g i)) (fits_kept c e1.0) in
    (p, fits_kept y e3.0 ∙ ap (λ (z : ℤ). z +ℤ at g i) p)

move_same : (g v : List ℤ) (i : ℕ) → every fits16 (stores g v i) ≡ true → move16 g v i ≡ move g v i
unfolding move move16 stores
move_same g v zero e = ap (λ (z : ℤ). set v 0 z) (fits_kept (at g 0) (and_both (fits16 (at g 0)) true e).0)
move_same g v (suc j) e = go (eqb (suc j) (length v)) e
  where
    go : (t : Bool) → every fits16 (cond t ((top -ℤ at g (suc j)) ∷ []) (pair_stores g (suc j) (at v j) (at v (suc j)))) ≡ true
        → cond t (set v j (wrap16 (top -ℤ at g (suc j))))
        (set (set v j (low16 g (suc j) (at v j) (at v (suc j)))) (suc j) (high16 g (suc j) (at v j) (at v (suc j))))
        ≡ cond t (set v j (top -ℤ at g (suc j)))
        (set (set v j (new_low g (suc j) (at v j) (at v (suc j)))) (suc j) (new_high g (suc j) (at v j) (at v (suc j))))
    go true f = ap (λ (z : ℤ). set v j z) (fits_kept (top -ℤ at g (suc j)) (and_both (fits16 (top -ℤ at g (suc j))) true f).0)
    go false f =
        let q = apart_same g (suc j) (at v j) (at v (suc j)) f in
        ap₂ (λ (x y : ℤ). set (set v j x) (suc j) y) q.0 q.1

pub length_move16 : (g v : List ℤ) (i : ℕ) → length (move16 g v i) ≡ length v
unfolding move16
length_move16 g v zero = length-set v 0 (wrap16 (at g 0))
length_move16 g v (suc j) =
    let x = low16 g (suc j) (at v j) (at v (suc j)) in
    let y = high16 g (suc j) (at v j) (at v (suc j)) in
    chosen (λ (w : List ℤ). length w ≡ length v) (eqb (suc j) (length v)) (λ e. length-set v j (wrap16 (top -ℤ at g (suc j))))
    (λ e. length-set (set v j x) (suc j) y ∙ length-set v j x)

-- the same vector and the same count
pub run_same : (n : ℕ) (g v : List ℤ) → calm n g v ≡ true → run16 n g v ≡ run n g v
unfolding run run16 calm
run_same zero g v e = refl
run_same (suc n) g v e = go (keeps g v) e (λ f. move_same g v (place g v) f) (λ w. run_same n g w)
  where
    go : (t : Bool) → cond t true (every fits16 (stores g v (place g v)) && calm n g (move16 g v (place g v))) ≡ true
        → (every fits16 (stores g v (place g v)) ≡ true → move16 g v (place g v) ≡ move g v (place g v))
        → ((w : List ℤ) → calm n g w ≡ true → run16 n g w ≡ run n g w)
        → cond t (record { vector = v; moves = 0 }) (one_more (run16 n g (move16 g v (place g v))))
        ≡ cond t (record { vector = v; moves = 0 }) (one_more (run n g (move g v (place g v))))
    go true f m h = refl
    go false f m h =
        let b = and_both (every fits16 (stores g v (place g v))) (calm n g (move16 g v (place g v))) f in
        ap one_more (h (move16 g v (place g v)) b.1 ∙ ap (λ (w : List ℤ). run n g w) (m b.0))

pub same_stabiliser : SameStabiliser
unfolding stabilise stabilise16
same_stabiliser g v e = sym (run_same 20 g v e)
