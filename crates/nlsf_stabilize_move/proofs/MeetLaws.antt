-- Where the slacks of a pair meet is where the definition's centre puts the pair. Assumes nothing.
use Prim.Native.Nat.{ℕ, zero, suc, ◌+◌, ◌*◌, ◌<◌}
use mathlib.Core.Path.{◌≡◌, refl, sym, ap, ap₂, ◌∙◌}
use mathlib.Core.List.{List, [], ◌∷◌}
use native.Mathlib.Omega.{arith}
use native.Mathlib.Nat.{not-suc-le-zero, le_of_suc-le-suc}
use lib.IntN.{ℤ, pos, ◌+ℤ◌, ◌-ℤ◌, ◌*ℤ◌, +ℤ_idl, +ℤ_assoc}
use lib.ListN.{length, take, drop}
use Rattle.ints.proofs.Order.{parts_same}
use Rattle.ints.proofs.Quotients.{shr_low, shr_high}
use Rattle.ints.proofs.Sums.{sum_parts, diff_parts, up_diff, down_diff, up_times, down_times}
use Rattle.ints.specs.Parts.{up, down}
use Rattle.spectrum.proofs.Extremes.{chosen_lt_z, half_nat}
use Rattle.spectrum.proofs.SumLaws.{sum_next}
use Rattle.spectrum.specs.Distances.{lower, upper, centre, new_low, new_high}
use Rattle.spectrum.specs.Values.{Mag, at, top, held, half, total}
use Rattle.nlsf_stabilize_move.specs.Inner.{odd, meeting}

pub odd_near : (g : ℤ) → down g ≡ 0 → Mag 1 (odd g)
odd_near g n =
    let h = half g in
    let f = half_nat g n in (
      omega (arith, up_diff g (h *ℤ pos 2), up_times h 2, down_times h 2, f, n),
      omega (arith, down_diff g (h *ℤ pos 2), up_times h 2, down_times h 2, f, n),
    )

-- ---- all numbers k higher

half_shift : (z k : ℤ) → half (z +ℤ k *ℤ pos 2) ≡ half z +ℤ k
half_shift z k =
    let t = z +ℤ k *ℤ pos 2 in
    parts_same (half t) (half z +ℤ k)
    (omega (
      arith,
      sum_parts (half z) k,
      sum_parts z (k *ℤ pos 2),
      up_times k 2,
      down_times k 2,
      shr_low z 2 (omega arith),
      shr_low t 2 (omega arith),
      shr_high z 2 (omega arith),
      shr_high t 2 (omega arith),
    ))

held_shift : (lo hi z k : ℤ) → held (lo +ℤ k) (hi +ℤ k) (z +ℤ k) ≡ held lo hi z +ℤ k
unfolding held
held_shift lo hi z k =
    chosen_lt_z (λ (x : ℤ). x ≡ held lo hi z +ℤ k) (hi +ℤ k) (z +ℤ k)
    (λ p. chosen_lt_z (λ (x : ℤ). hi +ℤ k ≡ x +ℤ k) hi z (λ q. refl) (λ q. absurd (omega (arith, sum_parts hi k, sum_parts z k, p, q))))
    (λ p.
    chosen_lt_z (λ (x : ℤ). x ≡ held lo hi z +ℤ k) (z +ℤ k) (lo +ℤ k)
    (λ q.
    chosen_lt_z (λ (x : ℤ). lo +ℤ k ≡ x +ℤ k) hi z (λ r. absurd (omega (arith, sum_parts hi k, sum_parts z k, p, r)))
    (λ r. chosen_lt_z (λ (x : ℤ). lo +ℤ k ≡ x +ℤ k) z lo (λ t. refl) (λ t. absurd (omega (arith, sum_parts lo k, sum_parts z k, q, t)))))
    (λ q.
    chosen_lt_z (λ (x : ℤ). z +ℤ k ≡ x +ℤ k) hi z (λ r. absurd (omega (arith, sum_parts hi k, sum_parts z k, p, r)))
    (λ r. chosen_lt_z (λ (x : ℤ). z +ℤ k ≡ x +ℤ k) z lo (λ t. absurd (omega (arith, sum_parts lo k, sum_parts z k, q, t))) (λ t. refl))))

-- ---- the sum of all gaps, about gap i

pub sum_split : (g : List ℤ) (i : ℕ) → i < length g → total g ≡ total (take i g) +ℤ at g i +ℤ total (drop (suc i) g)
unfolding total
sum_split [] i l = absurd (not-suc-le-zero l)
sum_split (x ∷ g) zero l = ap (λ (z : ℤ). z +ℤ total g) (sym (+ℤ_idl x))
sum_split (x ∷ g) (suc i) l =
    let t = total (take i g) in
    let y = at g i in
    let z = total (drop (suc i) g) in
    ap (λ (q : ℤ). x +ℤ q) (sum_split g i (le_of_suc-le-suc l))
    ∙ parts_same (x +ℤ (t +ℤ y +ℤ z)) (x +ℤ t +ℤ y +ℤ z) (omega (
      arith,
      sum_parts x (t +ℤ y +ℤ z),
      sum_parts (t +ℤ y) z,
      sum_parts t y,
      sum_parts (x +ℤ t +ℤ y) z,
      sum_parts (x +ℤ t) y,
      sum_parts x t,
    ))

-- ---- the pair about gap i, where x and y are the slacks of a and b, and r is the room

module _ (g : List ℤ) (i : ℕ) (a b x y r : ℤ) (l : i < length g) (ra : r +ℤ total g ≡ top) (xa : x +ℤ total (take i g) ≡ a)
    (yb : y +ℤ total (take (suc i) g) ≡ b) where
  abbrev s : ℤ
  s = total (take i g)

  abbrev h : ℤ
  h = half (at g i)

  abbrev d : ℤ
  d = odd (at g i)

  gap_parts : up (at g i) + down d + down h * 2 ≡ down (at g i) + up d + up h * 2
  gap_parts = omega (arith, diff_parts (at g i) (h *ℤ pos 2), up_times h 2, down_times h 2)

  upper_is : upper g i ≡ r +ℤ d +ℤ (s +ℤ h)
  unfolding upper
  upper_is =
      let e = total (drop (suc i) g) in
      let t = s +ℤ at g i +ℤ e in
      let q : r +ℤ t ≡ top = ap (λ (z : ℤ). r +ℤ z) (sym (sum_split g i l)) ∙ ra in
      parts_same (top -ℤ e -ℤ h) (r +ℤ d +ℤ (s +ℤ h)) (omega (
        arith,
        diff_parts (top -ℤ e) h,
        diff_parts top e,
        sum_parts (r +ℤ d) (s +ℤ h),
        sum_parts r d,
        sum_parts s h,
        gap_parts,
        sum_parts r t,
        sum_parts (s +ℤ at g i) e,
        sum_parts s (at g i),
        ap up q,
        ap down q,
      ))

  middle_is : half (a +ℤ b +ℤ pos 1) ≡ half (x +ℤ y +ℤ pos 1 +ℤ d) +ℤ (s +ℤ h)
  middle_is =
      let k = (s +ℤ h) *ℤ pos 2 in
      let z = x +ℤ y +ℤ pos 1 +ℤ d in
      let u = s +ℤ at g i in
      let q : y +ℤ u ≡ b = ap (λ (n : ℤ). y +ℤ n) (sym (sum_next g i l)) ∙ yb in
      let e : a +ℤ b +ℤ pos 1 ≡ z +ℤ k = parts_same (a +ℤ b +ℤ pos 1) (z +ℤ k) (omega (
        arith,
        sum_parts (a +ℤ b) (pos 1),
        sum_parts a b,
        sum_parts z k,
        sum_parts (x +ℤ y +ℤ pos 1) d,
        sum_parts (x +ℤ y) (pos 1),
        sum_parts x y,
        up_times (s +ℤ h) 2,
        down_times (s +ℤ h) 2,
        sum_parts s h,
        gap_parts,
        sum_parts x s,
        ap up xa,
        ap down xa,
        sum_parts y u,
        sum_parts s (at g i),
        ap up q,
        ap down q,
      )) in
      ap half e ∙ half_shift z (s +ℤ h)

  centre_is : centre g i a b ≡ meeting x y d r +ℤ (s +ℤ h)
  unfolding centre lower meeting
  centre_is =
      ap₂ (held (s +ℤ h)) upper_is middle_is
      ∙ ap (λ (z : ℤ). held z (r +ℤ d +ℤ (s +ℤ h)) (half (x +ℤ y +ℤ pos 1 +ℤ d) +ℤ (s +ℤ h))) (sym (+ℤ_idl (s +ℤ h)))
      ∙ held_shift (pos 0) (r +ℤ d) (half (x +ℤ y +ℤ pos 1 +ℤ d)) (s +ℤ h)

  pub low_is : meeting x y d r +ℤ s ≡ new_low g i a b
  unfolding new_low
  low_is =
      let m = meeting x y d r in
      parts_same (m +ℤ s) (m +ℤ (s +ℤ h) -ℤ h)
      (omega (arith, sum_parts m s, diff_parts (m +ℤ (s +ℤ h)) h, sum_parts m (s +ℤ h), sum_parts s h))
      ∙ ap (λ (z : ℤ). z -ℤ h) (sym centre_is)

  pub high_is : meeting x y d r +ℤ total (take (suc i) g) ≡ new_high g i a b
  unfolding new_high
  high_is =
      let m = meeting x y d r in
      ap (λ (z : ℤ). m +ℤ z) (sum_next g i l) ∙ sym (+ℤ_assoc m s (at g i)) ∙ ap (λ (z : ℤ). z +ℤ at g i) low_is
