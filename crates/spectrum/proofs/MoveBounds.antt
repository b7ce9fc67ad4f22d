-- The bounds of a move: limits, centre and what is stored. Only the value behind the gap can leave 16 bits, and then it is 32,768.
-- Assumes nothing.
use Prim.Native.Nat.{ℕ, zero, suc, ◌+◌, ◌≤◌, ◌<◌}
use mathlib.Core.Path.{◌≡◌, refl, sym, ap, subst, ◌∙◌}
use mathlib.Core.Bool.{Bool, true, ◌&&◌}
use mathlib.Core.List.{List, [], ◌∷◌}
use mathlib.Core.Logic.{◌≢◌}
use native.Mathlib.Omega.{arith}
use native.Mathlib.Nat.{suc_inj, not-suc-le-zero, le_of_suc-le-suc}
use borrow.Author.Tests.{eqb-true, eqb-false}
use lib.Dec.{eqb}
use lib.IntN.{ℤ, pos, negsuc, ◌+ℤ◌, ◌-ℤ◌}
use lib.Signed.{le_z}
use lib.ListN.{length, set, take, drop}
use Rattle.ints.proofs.Order.{parts_alone}
use Rattle.ints.specs.Parts.{up, down}
use Rattle.ints.proofs.Sums.{up_sum, down_sum, up_diff, down_diff}
use Rattle.ints.specs.Wrap.{wrap16}
use Rattle.deciding.proofs.Both.{both_and}
use Rattle.deciding.proofs.Choice.{chosen}
use Rattle.lists.specs.Every.{every}
use Rattle.spectrum.proofs.Extremes.{le_le_z, held_least, held_most, half_nat}
use Rattle.spectrum.proofs.Kept.{good_total}
use Rattle.spectrum.proofs.SameStores.{fits_kept, length_move16, same_stabiliser}
use Rattle.spectrum.specs.Distances.{diffs, least, first_least, keeps, place, lower, upper, centre, new_low, new_high, move}
use Rattle.spectrum.specs.Gaps.{Good, Ruled}
use Rattle.spectrum.specs.Statement.{SameTwo}
use Rattle.spectrum.specs.Stores.{low16, move16, fits16, stores, calm}
use Rattle.spectrum.specs.Values.{at, top, held, half, total, Within}
use Rattle.spectrum.specs.Inner.{◌≼◌}

pub good_at : (g : List ℤ) → Good g → (i : ℕ) → (down (at g i) ≡ 0) × (up (at g i) ≤ up (total g))
unfolding Good total
good_at [] r i = absurd r
good_at (g ∷ []) r zero = (r.0, omega (arith, up_sum g (pos 0)))
good_at (g ∷ []) r (suc i) = (refl, omega arith)
good_at (g ∷ (h ∷ gs)) r zero =
    let t = good_total (h ∷ gs) r.1 in (r.0, omega (arith, up_sum g (total (h ∷ gs)), t.0, r.0))
good_at (g ∷ (h ∷ gs)) r (suc i) =
    let t = good_total (h ∷ gs) r.1 in
    let q = good_at (h ∷ gs) r.1 i in (q.0, omega (arith, up_sum g (total (h ∷ gs)), t.0, r.0, q.1))

-- the last gap is 1 or more
pub last_gap : (g : List ℤ) (n : ℕ) → length g ≡ suc n → Good g → 1 ≤ up (at g n)
unfolding Good
last_gap [] n l r = absurd r
last_gap (a ∷ []) zero l r = r.1
last_gap (a ∷ []) (suc n) l r = absurd (omega arith)
last_gap (a ∷ (b ∷ g)) zero l r = absurd (omega arith)
last_gap (a ∷ (b ∷ g)) (suc n) l r = last_gap (b ∷ g) n (suc_inj l) r.1

pub record Cut (g : List ℤ) (i n : ℕ) : Type 0 where
  pub before0 : down (total (take i g)) ≡ 0
  pub here0 : down (at g i) ≡ 0
  pub behind0 : down (total (drop (suc i) g)) ≡ 0
  pub some : 1 ≤ up (total (drop (suc i) g))
  pub last : up (at g n) ≤ up (total (drop (suc i) g))
  pub all : up (total (take i g)) + up (at g i) + up (total (drop (suc i) g)) ≡ up (total g)

pub cut : (g : List ℤ) (i n : ℕ) → length g ≡ suc n → i < n → Good g → Cut g i n
unfolding Good total
cut [] i n l h r = absurd r
cut (g ∷ []) i n l h r = absurd (omega arith)
cut (g ∷ (h ∷ gs)) i zero l k r = absurd (not-suc-le-zero k)
cut (g ∷ (h ∷ gs)) zero (suc n) l k r =
    let t = good_total (h ∷ gs) r.1 in
    record {
      before0 = refl;
      here0 = r.0;
      behind0 = t.0;
      some = t.1;
      last = (good_at (h ∷ gs) r.1 n).1;
      all = omega (arith, up_sum g (total (h ∷ gs)), t.0, r.0);
    }
cut (g ∷ (h ∷ gs)) (suc i) (suc n) l k r =
    let t = good_total (h ∷ gs) r.1 in
    let c = cut (h ∷ gs) i n (suc_inj l) (le_of_suc-le-suc k) r.1 in
    record {
      before0 = omega (arith, down_sum g (total (take i (h ∷ gs))), c.before0, r.0);
      here0 = c.here0;
      behind0 = c.behind0;
      some = c.some;
      last = c.last;
      all = omega (arith, up_sum g (total (h ∷ gs)), up_sum g (total (take i (h ∷ gs))), t.0, r.0, c.all, c.before0);
    }

-- ---- the limits and the centre. Each number here lies in 0 .. 32,768, so no sum of two leaves 32 bits

pub record Limits (g : List ℤ) (i : ℕ) : Type 0 where
  pub low0 : down (lower g i) ≡ 0
  pub low : up (lower g i) ≡ up (total (take i g)) + up (half (at g i))
  pub high0 : down (upper g i) ≡ 0
  pub high : up (upper g i) + up (total (drop (suc i) g)) + up (half (at g i)) ≡ 32768
  pub order : up (lower g i) ≤ up (upper g i)

pub limits : (g : List ℤ) (i n : ℕ) → up (total g) ≤ 32768 → Cut g i n → Limits g i
unfolding lower upper
limits g i n m c =
    let f = half_nat (at g i) c.here0 in
    let a = total (take i g) in
    let b = total (drop (suc i) g) in
    let h = half (at g i) in
    let l1 : up (a +ℤ h) ≡ up a + up h = omega (arith, up_sum a h, c.before0, f.0) in
    let u1 : up ((top -ℤ b) -ℤ h) + up b + up h ≡ 32768 =
    omega (arith, up_diff (top -ℤ b) h, up_diff top b, down_diff top b, c.behind0, f.0, f.1.0, c.all) in
    record {
      low0 = omega (arith, down_sum a h, c.before0, f.0);
      low = l1;
      high0 = omega (arith, down_diff (top -ℤ b) h, up_diff top b, down_diff top b, c.behind0, f.0, f.1.0, c.all);
      high = u1;
      order = omega (arith, l1, u1, f.1.0, c.all);
    }

pub record Centred (g : List ℤ) (i : ℕ) (z : ℤ) : Type 0 where
  pub nat : down z ≡ 0
  pub least : up (total (take i g)) + up (half (at g i)) ≤ up z
  pub most : up z + up (total (drop (suc i) g)) + up (half (at g i)) ≤ 32768

pub centred : (g : List ℤ) (i n : ℕ) (a b : ℤ) → up (total g) ≤ 32768 → Cut g i n → Centred g i (centre g i a b)
unfolding centre
centred g i n a b m c =
    let l = limits g i n m c in
    let z = half (a +ℤ b +ℤ pos 1) in
    let o : lower g i ≼ upper g i = omega (arith, l.low0, l.high0, l.order) in
    let p : lower g i ≼ held (lower g i) (upper g i) z = held_least (lower g i) (upper g i) z o in
    let q : held (lower g i) (upper g i) z ≼ upper g i = held_most (lower g i) (upper g i) z o in
    let d : down (held (lower g i) (upper g i) z) ≡ 0 = omega (arith, parts_alone (held (lower g i) (upper g i) z), p, l.low0) in
    record {
      nat = d;
      least = omega (arith, p, d, l.low0, l.low);
      most = omega (arith, q, d, l.high0, l.high);
    }

-- ---- what a move stores

pub fits_nat : (z : ℤ) → down z ≡ 0 → up z ≤ 32767 → fits16 z ≡ true
unfolding fits16
fits_nat z d u = ap (λ (t : Bool). t && le_z z (pos 32767)) (le_le_z (negsuc 32767) z (omega arith)) ∙ le_le_z z (pos 32767) (omega arith)

-- what a move makes of a pair: the value before the gap lies in 0 .. 32,767, the one behind it reaches 32,769 less the gaps behind it
pub record Stored (g : List ℤ) (i : ℕ) (a b : ℤ) : Type 0 where
  pub low0 : down (new_low g i a b) ≡ 0
  pub low : up (new_low g i a b) ≤ 32767
  pub high0 : down (new_high g i a b) ≡ 0
  pub high : up (new_high g i a b) + up (total (drop (suc i) g)) ≤ 32769

pub stored : (g : List ℤ) (i n : ℕ) (a b : ℤ) → up (total g) ≤ 32768 → Cut g i n → Stored g i a b
unfolding new_low new_high
stored g i n a b m c =
    let e = centred g i n a b m c in
    let f = half_nat (at g i) c.here0 in
    let z = centre g i a b in
    let h = half (at g i) in
    record {
      low0 = omega (arith, down_diff z h, e.nat, f.0, e.least);
      low = omega (arith, up_diff z h, e.nat, f.0, e.most, c.some);
      high0 = omega (arith, down_sum (z -ℤ h) (at g i), up_diff z h, down_diff z h, e.nat, f.0, e.least, c.here0);
      high = omega (arith, up_sum (z -ℤ h) (at g i), up_diff z h, down_diff z h, e.nat, f.0, f.1.1, e.least, e.most, c.here0);
    }

-- ---- the place of a move is one of 0 .. the order

pub first_within : (x : ℤ) (r : List ℤ) → first_least (x ∷ r) ≤ length r
unfolding first_least
first_within x [] = omega arith
first_within x (y ∷ r) =
    chosen (λ (n : ℕ). n ≤ length (y ∷ r)) (le_z x (least (y ∷ r))) (λ e. omega arith) (λ e. omega (arith, first_within y r))

pub length_diffs : (p : ℤ) (v g : List ℤ) → length g ≡ suc (length v) → length (diffs p v g) ≡ suc (length v)
unfolding diffs
length_diffs p [] [] l = l
length_diffs p [] (g ∷ gs) l = refl
length_diffs p (v ∷ vs) [] l = absurd (omega arith)
length_diffs p (v ∷ vs) (g ∷ gs) l = ap suc (length_diffs v vs gs (suc_inj l))

pub first_most_lem : (l : List ℤ) (n : ℕ) → length l ≡ suc n → first_least l ≤ n
first_most_lem [] n e = absurd (omega arith)
first_most_lem (x ∷ r) n e = let f : length r ≡ n = suc_inj e in omega (arith, first_within x r)

pub place_most : (v g : List ℤ) → length g ≡ suc (length v) → place g v ≤ length v
unfolding place
place_most v g l = first_most_lem (diffs (pos 0) v g) (length v) (length_diffs (pos 0) v g l)

-- ---- a move keeps values within 32,768

within_set : (lo hi : ℕ) (v : List ℤ) (i : ℕ) (z : ℤ) → Within lo hi v → (down z ≤ lo) × (up z ≤ hi) → Within lo hi (set v i z)
unfolding Within
within_set lo hi [] i z h b = tt
within_set lo hi (x ∷ v) zero z h b = (b, h.1)
within_set lo hi (x ∷ v) (suc i) z h b = (h.0, within_set lo hi v i z h.1 b)

module _ (g : List ℤ) (r : Ruled g) where
  -- the first value's new place, and the last one's
  pub first_near : (n : ℕ) → length g ≡ suc n → 0 < n → (down (at g 0) ≡ 0) × (up (at g 0) ≤ 32767)
  first_near n l h =
      let c = cut g 0 n l h r.good in (c.here0, omega (arith, c.all, c.some, r.most))

  pub last_near : (n : ℕ) → length g ≡ suc n → (down (top -ℤ at g n) ≡ 0) × (up (top -ℤ at g n) ≤ 32767)
  last_near n l =
      let q = good_at g r.good n in (
        omega (arith, down_diff top (at g n), q.0, q.1, r.most),
        omega (arith, up_diff top (at g n), q.0, last_gap g n l r.good),
      )

  pub move_near : (v : List ℤ) (i : ℕ) → length g ≡ suc (length v) → 0 < length v → i ≤ length v → Within 32768 32768 v
      → Within 32768 32768 (move g v i)
  unfolding move
  move_near v zero l h p w =
      let f = first_near (length v) l h in within_set 32768 32768 v 0 (at g 0) w (omega (arith, f.0), omega (arith, f.1))
  move_near v (suc j) l h p w =
      chosen (Within 32768 32768) (eqb (suc j) (length v))
      (λ e.
      let q : suc j ≡ length v = eqb-true (suc j) (length v) e in
      let f = last_near (suc j) (l ∙ ap suc (sym q)) in
      within_set 32768 32768 v j (top -ℤ at g (suc j)) w (omega (arith, f.0), omega (arith, f.1)))
      (λ e.
      let q : suc j ≢ length v = eqb-false (suc j) (length v) e in
      let c = cut g (suc j) (length v) l (omega (arith, p, q)) r.good in
      let x = new_low g (suc j) (at v j) (at v (suc j)) in
      let y = new_high g (suc j) (at v j) (at v (suc j)) in
      let s = stored g (suc j) (length v) (at v j) (at v (suc j)) r.most c in
      within_set 32768 32768 (set v j x) (suc j) y (within_set 32768 32768 v j x w (omega (arith, s.low0), omega (arith, s.low)))
      (omega (arith, s.high0), omega (arith, s.high, c.some)))

  -- ---- where the last gap is 2 or more, no store of the crate leaves 16 bits: so it is in both books (last gaps 461 and 347)

  stores_fit : (v : List ℤ) (i : ℕ) → length g ≡ suc (length v) → 0 < length v → 2 ≤ up (at g (length v)) → i ≤ length v
      → every fits16 (stores g v i) ≡ true
  unfolding stores low16 new_low new_high
  stores_fit v zero l h t p =
      let f = first_near (length v) l h in both_and (fits16 (at g 0)) true (fits_nat (at g 0) f.0 f.1) refl
  stores_fit v (suc j) l h t p =
      chosen (λ (s : List ℤ). every fits16 s ≡ true) (eqb (suc j) (length v))
      (λ e.
      let q : suc j ≡ length v = eqb-true (suc j) (length v) e in
      let f = last_near (suc j) (l ∙ ap suc (sym q)) in
      both_and (fits16 (top -ℤ at g (suc j))) true (fits_nat (top -ℤ at g (suc j)) f.0 f.1) refl)
      (λ e.
      let q : suc j ≢ length v = eqb-false (suc j) (length v) e in
      let c = cut g (suc j) (length v) l (omega (arith, p, q)) r.good in
      let z = centre g (suc j) (at v j) (at v (suc j)) in
      let y = half (at g (suc j)) in
      let d = centred g (suc j) (length v) (at v j) (at v (suc j)) r.most c in
      let s = stored g (suc j) (length v) (at v j) (at v (suc j)) r.most c in
      let fz : fits16 z ≡ true = fits_nat z d.nat (omega (arith, d.most, c.some)) in
      let x : wrap16 z -ℤ y ≡ z -ℤ y = ap (λ (k : ℤ). k -ℤ y) (fits_kept z fz) in
      let fx : fits16 (z -ℤ y) ≡ true = fits_nat (z -ℤ y) s.low0 s.low in
      let k : wrap16 (wrap16 z -ℤ y) ≡ z -ℤ y = ap wrap16 x ∙ fits_kept (z -ℤ y) fx in
      both_and (fits16 z) (fits16 (wrap16 z -ℤ y) && (fits16 (wrap16 (wrap16 z -ℤ y) +ℤ at g (suc j)) && true)) fz
      (both_and (fits16 (wrap16 z -ℤ y)) (fits16 (wrap16 (wrap16 z -ℤ y) +ℤ at g (suc j)) && true) (ap fits16 x ∙ fx)
      (both_and (fits16 (wrap16 (wrap16 z -ℤ y) +ℤ at g (suc j))) true
      (ap (λ (u : ℤ). fits16 (u +ℤ at g (suc j))) k
      ∙ fits_nat (z -ℤ y +ℤ at g (suc j)) s.high0 (omega (arith, s.high, c.last, t))) refl)))

  pub calm_two : (n : ℕ) (v : List ℤ) → length g ≡ suc (length v) → 0 < length v → 2 ≤ up (at g (length v)) → calm n g v ≡ true
  unfolding calm
  calm_two zero v l h t = refl
  calm_two (suc n) v l h t =
      chosen (λ (b : Bool). b ≡ true) (keeps g v) (λ e. refl)
      (λ e.
      let m = length_move16 g v (place g v) in
      both_and (every fits16 (stores g v (place g v))) (calm n g (move16 g v (place g v)))
      (stores_fit v (place g v) l h t (place_most v g l))
      (calm_two n (move16 g v (place g v)) (l ∙ ap suc (sym m)) (omega (arith, m, h)) (subst (λ (i : ℕ). 2 ≤ up (at g i)) (sym m) t)))

pub same_two : SameTwo
same_two g v r l h t = same_stabiliser g v (calm_two g r 20 v l h t)
