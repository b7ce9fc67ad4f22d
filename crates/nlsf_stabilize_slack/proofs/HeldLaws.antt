-- What follows of a vector as the loop of moves holds it: where its slacks lie, and what a new value asks of them. Assumes nothing.
use Prim.Native.Nat.{ℕ, zero, suc, ◌≤◌, ◌<◌}
use mathlib.Core.Path.{◌≡◌, refl, sym, ap, subst, ◌∙◌}
use mathlib.Core.List.{List, [], ◌∷◌, map}
use mathlib.Core.Logic.{◌≢◌}
use native.Mathlib.Omega.{arith}
use native.Mathlib.Nat.{not-suc-le-zero, le_of_suc-le-suc}
use lib.IntN.{ℤ, pos, ◌+ℤ◌}
use lib.ListN.{length, get_or, take, set, length-map, get_or-eq_default}
use lib.Seq.{take_all, take-nil, get_or-set_same, get_or-set_other}
use Rattle.deciding.proofs.Choice.{by_lt}
use Rattle.ints.proofs.Order.{parts_alone}
use Rattle.ints.proofs.Sums.{sum_parts, up_sum, down_sum}
use Rattle.ints.specs.Parts.{up, down}
use Rattle.spectrum.proofs.Kept.{good_total}
use Rattle.spectrum.specs.Gaps.{Good}
use Rattle.spectrum.specs.Inner.{capped}
use Rattle.spectrum.specs.Values.{Mag, at, top, total, Within}
use Rattle.nlsf_stabilize_slack.specs.Inner.{bounded, Held}

-- ---- sums of the first gaps

pub taken : (g : List ℤ) → Good g → (j : ℕ) → (down (total (take j g)) ≡ 0) × (up (total (take j g)) ≤ up (total g))
unfolding Good total
taken [] r j = absurd r
taken (a ∷ g) r zero = (refl, omega arith)
taken (a ∷ []) r (suc j) = rw (take-nil {A = ℤ} j) (omega (arith, down_sum a (pos 0), r.0), omega arith)
taken (a ∷ (b ∷ g)) r (suc j) =
    let t = taken (b ∷ g) r.1 j in
    let s = good_total (b ∷ g) r.1 in
    let x = total (take j (b ∷ g)) in
    let y = total (b ∷ g) in
    (omega (arith, down_sum a x, t.0, r.0), omega (arith, up_sum a x, up_sum a y, t, s.0, r.0))

-- ---- places

pub inside : (u : List ℤ) (i : ℕ) → i < length u → bounded u (suc i) ≡ at u i
inside [] i h = absurd (not-suc-le-zero h)
inside (x ∷ u) zero h = refl
inside (x ∷ u) (suc i) h = inside u i (le_of_suc-le-suc h)

-- ---- where the numbers lie

or_top_near : (u : List ℤ) → Within 32768 32768 u → (j : ℕ) → Mag 32768 (get_or u j top)
unfolding Within
or_top_near [] h j = (omega arith, omega arith)
or_top_near (x ∷ u) h zero = (h.0.1, h.0.0)
or_top_near (x ∷ u) h (suc j) = or_top_near u h.1 j

bounded_near : (u : List ℤ) → Within 32768 32768 u → (j : ℕ) → Mag 32768 (bounded u j)
bounded_near u h zero = (omega arith, omega arith)
bounded_near u h (suc j) = or_top_near u h j

module _ (g u v w s : List ℤ) (h : Held g u v w s) where
  pub slack_near : (j : ℕ) → Mag 65536 (at w j)
  slack_near j = by_lt j 18 inside outside
    where
      inside : j < 18 → Mag 65536 (at w j)
      inside l =
          let x = at w j in
          let t = total (take j g) in
          let b : Mag 32768 (x +ℤ t) = subst (Mag 32768) (sym (h.above j l)) (bounded_near u h.near j) in
          let q = taken g h.rule.good j in
          let m = h.rule.most in
          (omega (arith, sum_parts x t, parts_alone x, b, q, m), omega (arith, sum_parts x t, parts_alone x, b, q, m))

      outside : 18 ≤ j → Mag 65536 (at w j)
      outside l =
          let e : at w j ≡ pos 0 = get_or-eq_default w (pos 0) {n = j} (omega (arith, h.slacks)) in
          subst (Mag 65536) (sym e) (omega arith, omega arith)

  -- what the gaps leave stands in every place behind the last value
  pub room_is : (j : ℕ) → length u < j → j < 18 → at w j +ℤ total g ≡ top
  room_is j p l =
      ap (λ (k : List ℤ). at w j +ℤ total k) (sym (take_all j g (omega (arith, h.long))))
      ∙ h.above j l
      ∙ get_or-eq_default (pos 0 ∷ u) top {n = j} (omega arith)

  pub value_is : (i : ℕ) → i < length u → at w (suc i) +ℤ total (take (suc i) g) ≡ at u i
  value_is i l = h.above (suc i) (omega (arith, h.few)) ∙ inside u i l

  pub as_long : length v ≡ length u
  as_long = ap length h.stored ∙ length-map u capped

-- ---- a new value z at place i, with slack y

pub map_set : (f : ℤ → ℤ) (u : List ℤ) (i : ℕ) (z : ℤ) → set (map f u) i (f z) ≡ map f (set u i z)
map_set f [] i z = refl
map_set f (x ∷ u) zero z = refl
map_set f (x ∷ u) (suc i) z = ap (λ (l : List ℤ). f x ∷ l) (map_set f u i z)

pub above_set : (g u w : List ℤ) (i : ℕ) (y z : ℤ) → i < length u → length u ≤ 16 → length w ≡ 18
    → ((j : ℕ) → j < 18 → at w j +ℤ total (take j g) ≡ bounded u j) → y +ℤ total (take (suc i) g) ≡ z
    → (j : ℕ) → j < 18 → at (set w (suc i) y) j +ℤ total (take j g) ≡ bounded (set u i z) j
above_set g u w i y z h f l a e j k =
    by_lt j (suc i) (λ p. there (λ q. omega arith)) (λ p. by_lt (suc i) j (λ q. there (λ r. omega arith)) (λ q. here (omega arith)))
  where
    here : j ≡ suc i → at (set w (suc i) y) j +ℤ total (take j g) ≡ bounded (set u i z) j
    here p =
        subst (λ (n : ℕ). at (set w (suc i) y) n +ℤ total (take n g) ≡ bounded (set u i z) n) (sym p)
        (ap (λ (x : ℤ). x +ℤ total (take (suc i) g)) (get_or-set_same w (suc i) y (pos 0) (omega (arith, l)))
        ∙ e ∙ sym (get_or-set_same (pos 0 ∷ u) (suc i) z top (omega (arith, h))))

    there : j ≢ suc i → at (set w (suc i) y) j +ℤ total (take j g) ≡ bounded (set u i z) j
    there p =
        ap (λ (x : ℤ). x +ℤ total (take j g)) (get_or-set_other w (suc i) j y (pos 0) p)
        ∙ a j k ∙ sym (get_or-set_other (pos 0 ∷ u) (suc i) j z top p)
