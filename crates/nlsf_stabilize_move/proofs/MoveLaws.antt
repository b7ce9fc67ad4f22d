-- A move, branch by branch, as the code makes it: what was held is held, moved. Assumes nothing.
use Prim.Native.Nat.{ℕ, zero, suc, ◌+◌, ◌-◌, ◌≤◌, ◌<◌}
use mathlib.Core.Path.{◌≡◌, refl, sym, ap, ap₂, subst, ◌∙◌}
use mathlib.Core.List.{List, [], map}
use mathlib.Core.Logic.{◌≢◌}
use native.Mathlib.Omega.{arith}
use native.Mathlib.Nat.{not-suc-le-zero}
use borrow.Author.Tests.{eq-eqb, ne_eqb}
use lib.IntN.{ℤ, pos, ◌+ℤ◌, ◌-ℤ◌, +ℤ_idl}
use lib.ListN.{length, set, take, drop, length-set, drop_of_length-le}
use Rattle.ints.proofs.Order.{parts_same}
use Rattle.ints.proofs.Sums.{sum_parts, diff_parts}
use Rattle.ints.specs.Parts.{up, down}
use Rattle.spectrum.proofs.Kept.{length_move}
use Rattle.spectrum.proofs.MoveBounds.{Stored, stored, cut, first_near, last_near, move_near}
use Rattle.spectrum.proofs.Settled.{min_own}
use Rattle.spectrum.proofs.SumLaws.{sum_one}
use Rattle.spectrum.specs.Distances.{new_low, new_high, move}
use Rattle.spectrum.specs.Inner.{capped}
use Rattle.spectrum.specs.Values.{Mag, at, top, total, Within}
use Rattle.nlsf_stabilize_slack.proofs.HeldLaws.{room_is, value_is, map_set, above_set}
use Rattle.nlsf_stabilize_slack.specs.Inner.{bounded, Held}
use Rattle.nlsf_stabilize_move.proofs.MeetLaws.{sum_split, low_is, high_is}
use Rattle.nlsf_stabilize_move.specs.Inner.{odd, meeting}

capped_own : (z : ℤ) → down z ≡ 0 → up z ≤ 32767 → z ≡ capped z
unfolding capped
capped_own z d u = sym (min_own z (pos 32767) (omega arith))

move_last : (g u : List ℤ) (j : ℕ) → suc j ≡ length u → set u j (top -ℤ at g (suc j)) ≡ move g u (suc j)
unfolding move
move_last g u j e = rw (eq-eqb (suc j) (length u) e)

move_pair : (g u : List ℤ) (j : ℕ) → suc j ≢ length u
    → set (set u j (new_low g (suc j) (at u j) (at u (suc j)))) (suc j) (new_high g (suc j) (at u j) (at u (suc j))) ≡ move g u (suc j)
unfolding move
move_pair g u j e = rw (ne_eqb (suc j) (length u) e)

module _ (g u v w s : List ℤ) (h : Held g u v w s) where
  -- u' is u with place i moved, v' what is stored of it, w' its slacks
  held_moved : (i : ℕ) → i ≤ length u → (u' v' w' : List ℤ) → u' ≡ move g u i → v' ≡ map capped u' → length w' ≡ 18
      → ((j : ℕ) → j < 18 → at w' j +ℤ total (take j g) ≡ bounded u' j) → Held g (move g u i) v' w' s
  held_moved i p u' v' w' e f l a =
      let m : length u' ≡ length u = ap length e ∙ length_move g u i in
      subst (λ (x : List ℤ). Held g x v' w' s) e
      (record {
        rule = h.rule;
        long = h.long ∙ ap suc (sym m);
        some = omega (arith, h.some, m);
        few = omega (arith, h.few, m);
        near = subst (Within 32768 32768) (sym e) (move_near g h.rule u i h.long h.some p h.near);
        stored = f;
        slacks = l;
        above = a;
        sums = h.sums;
        sum = λ j k. h.sum j (omega (arith, m));
      })

  -- what is stored of a value that 16 bits hold
  stored_set : (i : ℕ) (z : ℤ) → down z ≡ 0 → up z ≤ 32767 → set v i z ≡ map capped (set u i z)
  stored_set i z d b = ap₂ (λ (l : List ℤ) (y : ℤ). set l i y) h.stored (capped_own z d b) ∙ map_set capped u i z

  -- ---- the first value

  pub moved_first : (i : ℕ) → i ≡ 0 → Held g (move g u i) (set v 0 (at g 0)) (set w 1 (pos 0)) s
  unfolding move
  moved_first zero e =
      let f = first_near g h.rule (length u) h.long h.some in
      held_moved 0 (omega arith) (set u 0 (at g 0)) (set v 0 (at g 0)) (set w 1 (pos 0)) refl (stored_set 0 (at g 0) f.0 f.1)
      (length-set w 1 (pos 0) ∙ h.slacks)
      (above_set g u w 0 (pos 0) (at g 0) h.some h.few h.slacks h.above
      (+ℤ_idl (total (take 1 g)) ∙ sum_one g (omega (arith, h.long))))
  moved_first (suc i) e = absurd (omega arith)

  -- ---- the last

  -- what stands in the last place of all
  room : at w 17 +ℤ total g ≡ top
  room = room_is g u v w s h 17 (omega (arith, h.few)) (omega arith)

  last_sum : (i : ℕ) → i ≡ length u → at w 17 +ℤ total (take i g) ≡ top -ℤ at g i
  unfolding total
  last_sum i e =
      let r = at w 17 in
      let t = total (take i g) in
      let x = at g i in
      let none : drop (suc i) g ≡ [] = drop_of_length-le g {i = suc i} (omega (arith, h.long)) in
      let all : total g ≡ t +ℤ x +ℤ pos 0 =
      sum_split g i (omega (arith, h.long)) ∙ ap (λ (l : List ℤ). t +ℤ x +ℤ total l) none in
      let q : r +ℤ (t +ℤ x +ℤ pos 0) ≡ top = ap (λ (z : ℤ). r +ℤ z) (sym all) ∙ room in
      parts_same (r +ℤ t) (top -ℤ x) (omega (
        arith,
        sum_parts r t,
        diff_parts top x,
        sum_parts r (t +ℤ x +ℤ pos 0),
        sum_parts (t +ℤ x) (pos 0),
        sum_parts t x,
        ap up q,
        ap down q,
      ))

  pub last_value : (i : ℕ) → i ≡ length u → at w 17 +ℤ at s i ≡ top -ℤ at g i
  last_value i e = ap (λ (z : ℤ). at w 17 +ℤ z) (h.sum i (omega arith)) ∙ last_sum i e

  pub last_bounds : (i : ℕ) → i ≡ length u → (down (top -ℤ at g i) ≡ 0) × (up (top -ℤ at g i) ≤ 32767)
  last_bounds i e = last_near g h.rule i (h.long ∙ ap suc (sym e))

  pub moved_last : (i : ℕ) → 0 < i → i ≡ length u → Held g (move g u i) (set v (i - 1) (top -ℤ at g i)) (set w i (at w 17)) s
  moved_last zero z e = absurd (not-suc-le-zero z)
  moved_last (suc j) z e =
      let y = top -ℤ at g (suc j) in
      let p : suc j - 1 ≡ j = omega arith in
      let b = last_bounds (suc j) e in
      rw p
      (held_moved (suc j) (omega arith) (set u j y) (set v j y) (set w (suc j) (at w 17)) (move_last g u j e)
      (stored_set j y b.0 b.1) (length-set w (suc j) (at w 17) ∙ h.slacks)
      (above_set g u w j (at w 17) y (omega arith) h.few h.slacks h.above (last_sum (suc j) e)))

  -- ---- a pair about gap i, behind the value at j

  module _ (j : ℕ) (p : suc j < length u) where
    abbrev m : ℤ
    m = meeting (at w (suc j)) (at w (suc (suc j))) (odd (at g (suc j))) (at w 17)

    abbrev low : ℤ
    low = new_low g (suc j) (at u j) (at u (suc j))

    abbrev high : ℤ
    high = new_high g (suc j) (at u j) (at u (suc j))

    low_sum : m +ℤ total (take (suc j) g) ≡ low
    low_sum =
        low_is g (suc j) (at u j) (at u (suc j)) (at w (suc j)) (at w (suc (suc j))) (at w 17) (omega (arith, h.long))
        room (value_is g u v w s h j (omega arith)) (value_is g u v w s h (suc j) p)

    high_sum : m +ℤ total (take (suc (suc j)) g) ≡ high
    high_sum =
        high_is g (suc j) (at u j) (at u (suc j)) (at w (suc j)) (at w (suc (suc j))) (at w 17) (omega (arith, h.long))
        room (value_is g u v w s h j (omega arith)) (value_is g u v w s h (suc j) p)

    pair_bounds : Stored g (suc j) (at u j) (at u (suc j))
    pair_bounds =
        stored g (suc j) (length u) (at u j) (at u (suc j)) h.rule.most (cut g (suc j) (length u) h.long p h.rule.good)

    pair_moved : Held g (move g u (suc j)) (set (set v j low) (suc j) (capped high)) (set (set w (suc j) m) (suc (suc j)) m) s
    pair_moved =
        let b = pair_bounds in
        let u' = set u j low in
        let w' = set w (suc j) m in
        let lu : length u' ≡ length u = length-set u j low in
        let lw : length w' ≡ 18 = length-set w (suc j) m ∙ h.slacks in
        held_moved (suc j) (omega arith) (set u' (suc j) high) (set (set v j low) (suc j) (capped high)) (set w' (suc (suc j)) m)
        (move_pair g u j (λ e. omega arith))
        (ap (λ (l : List ℤ). set l (suc j) (capped high)) (stored_set j low b.low0 b.low) ∙ map_set capped u' (suc j) high)
        (length-set w' (suc (suc j)) m ∙ lw)
        (above_set g u' w' (suc j) m high (omega (arith, lu)) (omega (arith, lu, h.few)) lw
        (above_set g u w j m low (omega arith) h.few h.slacks h.above low_sum) high_sum)

  -- the same about gap i, as the code has it

  pub low_value : (i : ℕ) → 0 < i → i < length u
      → meeting (at w i) (at w (i + 1)) (odd (at g i)) (at w 17) +ℤ at s i ≡ new_low g i (at u (i - 1)) (at u i)
  low_value zero z p = absurd (not-suc-le-zero z)
  low_value (suc j) z p =
      let a : suc j - 1 ≡ j = omega arith in
      let b : suc j + 1 ≡ suc (suc j) = omega arith in
      rw (a, b) (ap (λ (x : ℤ). m j p +ℤ x) (h.sum (suc j) (omega arith)) ∙ low_sum j p)

  pub bounds : (i : ℕ) → 0 < i → i < length u → Stored g i (at u (i - 1)) (at u i)
  bounds zero z p = absurd (not-suc-le-zero z)
  bounds (suc j) z p = let a : suc j - 1 ≡ j = omega arith in rw a (pair_bounds j p)

  pub high_near : (i : ℕ) → 0 < i → i < length u → Mag 32768 (new_low g i (at u (i - 1)) (at u i) +ℤ at g i)
  unfolding new_high
  high_near i z p =
      let b = bounds i z p in
      let c = cut g i (length u) h.long p h.rule.good in (omega (arith, b.high, c.some), omega (arith, b.high0))

  pub moved_pair : (i : ℕ) → 0 < i → i < length u → (x y : ℤ) → x ≡ meeting (at w i) (at w (i + 1)) (odd (at g i)) (at w 17)
      → y ≡ new_low g i (at u (i - 1)) (at u i)
      → Held g (move g u i) (set (set v (i - 1) y) i (capped (y +ℤ at g i))) (set (set w i x) (i + 1) x) s
  unfolding new_high
  moved_pair zero z p x y e f = absurd (not-suc-le-zero z)
  moved_pair (suc j) z p x y e f =
      let a : suc j - 1 ≡ j = omega arith in
      let b : suc j + 1 ≡ suc (suc j) = omega arith in
      rw (e, f, a, b) (pair_moved j p)
