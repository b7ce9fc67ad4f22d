-- What the search and the test say of the vector that is held: its slacks' steps are its differences. Assumes nothing.
use Prim.Native.Nat.{ℕ, suc, ◌≤◌, ◌<◌, suc-le-suc}
use mathlib.Core.Path.{◌≡◌, refl, sym, ap, ◌∙◌}
use mathlib.Core.Bool.{Bool, true, false}
use mathlib.Core.List.{List}
use native.Mathlib.Omega.{arith}
use lib.IntN.{ℤ, pos, ◌+ℤ◌, ◌-ℤ◌}
use lib.Signed.{le_z}
use lib.ListN.{length, take}
use Rattle.deciding.proofs.Choice.{by_lt}
use Rattle.ints.proofs.Order.{parts_same, le_z_true, le_z_false}
use Rattle.ints.proofs.Sums.{sum_parts, diff_parts}
use Rattle.ints.specs.Parts.{up, down}
use Rattle.spectrum.proofs.Capped.{capped_same, fallback_capped}
use Rattle.spectrum.proofs.FirstSmallest.{least_at, below_all, found, diff_at}
use Rattle.spectrum.proofs.Kept.{keeps_kept}
use Rattle.spectrum.proofs.MoveBounds.{length_diffs, place_most}
use Rattle.spectrum.proofs.Results.{kept_within}
use Rattle.spectrum.proofs.SumLaws.{sum_next}
use Rattle.spectrum.specs.Distances.{diffs, least, keeps, place}
use Rattle.spectrum.specs.Fallback.{fallback}
use Rattle.spectrum.specs.Inner.{◌≼◌, step}
use Rattle.spectrum.specs.Values.{at, total}
use Rattle.nlsf_stabilize_search.specs.Inner.{Searched, UpTo, Falls}
use Rattle.nlsf_stabilize_slack.proofs.HeldLaws.{room_is}
use Rattle.nlsf_stabilize_slack.specs.Inner.{bounded, Held}

module _ (g u v w s : List ℤ) (h : Held g u v w s) where
  abbrev ds : List ℤ
  ds = diffs (pos 0) u g

  many : length ds ≡ suc (length u)
  many = length_diffs (pos 0) u g h.long

  -- a step is the difference of its place; past the last gap it is 0
  step_is : (i : ℕ) → i ≤ length u → step w i ≡ at ds i
  step_is i p =
      let x = at w i in
      let y = at w (suc i) in
      let t = total (take i g) in
      let a = at g i in
      let e : x +ℤ t ≡ bounded u i = h.above i (omega (arith, h.few)) in
      let f : y +ℤ (t +ℤ a) ≡ bounded u (suc i) =
      ap (λ (z : ℤ). y +ℤ z) (sym (sum_next g i (omega (arith, h.long)))) ∙ h.above (suc i) (omega (arith, h.few)) in
      let b = bounded u i in
      let c = bounded u (suc i) in
      parts_same (y -ℤ x) (c -ℤ (b +ℤ a)) (omega (
        arith,
        diff_parts y x,
        diff_parts c (b +ℤ a),
        sum_parts b a,
        sum_parts x t,
        ap up e,
        ap down e,
        sum_parts y (t +ℤ a),
        sum_parts t a,
        ap up f,
        ap down f,
      ))
      ∙ sym (diff_at (pos 0) u g i h.long p)

  flat : (i : ℕ) → length u < i → i < 17 → pos 0 ≼ step w i
  flat i p l =
      let x = at w i in
      let y = at w (suc i) in
      let e = room_is g u v w s h i p (omega arith) in
      let f = room_is g u v w s h (suc i) (omega arith) (omega arith) in
      omega (arith, diff_parts y x, sum_parts x (total g), sum_parts y (total g), ap up e, ap down e, ap up f, ap down f)

  -- the smallest difference
  smallest : step w (place g u) ≡ least ds
  unfolding place
  smallest = step_is (place g u) (place_most u g h.long) ∙ sym (least_at ds)

  -- ---- the test

  pub rises_keeps : UpTo (suc (length u)) w → keeps g u ≡ true
  unfolding keeps
  rises_keeps r = go (le_z (pos 0) (least ds)) refl
    where
      go : (t : Bool) → le_z (pos 0) (least ds) ≡ t → t ≡ true
      go true e = refl
      go false e =
          let k = place g u in
          let n : k ≤ length u = place_most u g h.long in
          absurd (omega (
            arith,
            le_z_false (pos 0) (least ds) e,
            diff_parts (at w (suc k)) (at w k),
            r.each k (suc-le-suc n),
            ap up smallest,
            ap down smallest,
          ))

  pub falls_not : Falls (suc (length u)) w → keeps g u ≡ false
  unfolding keeps
  falls_not f = go (le_z (pos 0) (least ds)) refl
    where
      go : (t : Bool) → le_z (pos 0) (least ds) ≡ t → t ≡ false
      go true e =
          let k = f.place in
          let q = step_is k (omega (arith, f.within)) in
          let below = below_all ds k (omega (arith, many, f.within)) in
          absurd (omega (arith, le_z_true (pos 0) (least ds) e, below, diff_parts (at w (suc k)) (at w k), f.less, ap up q, ap down q))
      go false e = refl

  -- ---- the search

  pub place_found : (i : ℕ) → keeps g u ≡ false → Searched w (length u) i → i ≡ place g u
  unfolding place keeps
  place_found i e r =
      let f = r.first in
      let n : i ≤ length u = inside in
      (found ds (length u) i many
      (record {
        within = suc-le-suc n;
        least = λ k l.
            let p = step_is i n in
            let q = step_is k (omega arith) in
            omega (arith, f.least k (omega (arith, r.past)), ap up p, ap down p, ap up q, ap down q);
        before = λ k l.
            let p = step_is i n in
            let q = step_is k (omega arith) in
            omega (arith, f.before k l, ap up p, ap down p, ap up q, ap down q);
      })).0
    where
      -- a place past the last gap is not below 0, and the smallest step is
      inside : i ≤ length u
      inside =
          by_lt (length u) i
          (λ l.
          let k = place g u in
          let m : k ≤ length u = place_most u g h.long in
          let a = flat i l (omega (arith, r.first.within, r.most)) in
          let b = r.first.least k (omega (arith, r.past)) in
          absurd (omega (arith, a, b, le_z_false (pos 0) (least ds) e, ap up smallest, ap down smallest)))
          (λ l. l)

  -- ---- what is stored: a vector that keeps its gaps as it is, any other so that the fallback makes the same of it

  pub kept_stored : keeps g u ≡ true → v ≡ u
  kept_stored e =
      h.stored ∙ capped_same 0 u (kept_within (pos 0) u g h.long h.rule.good (omega arith) (keeps_kept u g h.long e))

  pub stored_fallback : fallback g v ≡ fallback g u
  stored_fallback = ap (fallback g) h.stored ∙ fallback_capped g u h.rule h.long
