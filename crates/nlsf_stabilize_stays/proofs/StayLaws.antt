-- A vector that stays, place by place, and what the stabiliser makes of it. Assumes nothing.
use Prim.Native.Nat.{ℕ, suc, ◌<◌}
use mathlib.Core.Path.{◌≡◌, refl, sym, subst, subst⁻¹}
use mathlib.Core.Bool.{Bool, true, false, not, ◌&&◌, ◌||◌}
use mathlib.Core.List.{List, [], ◌∷◌}
use native.Mathlib.Omega.{arith}
use native.Mathlib.Nat.{suc_inj}
use borrow.Author.Count.{below_more}
use lib.Dec.{T}
use lib.IntN.{ℤ, pos, ◌+ℤ◌}
use lib.Signed.{lt_z, le_z}
use lib.ListN.{length}
use Rattle.ints.proofs.Order.{le_z_true, lt_z_true, lt_z_false}
use Rattle.ints.proofs.Sums.{sum_parts}
use Rattle.lists.specs.Every.{every}
use Rattle.lists.proofs.EveryLaws.{every_at, at_every}
use Rattle.deciding.proofs.Both.{and_both, both_and}
use Rattle.deciding.specs.Inner.{Decides}
use Rattle.deciding.proofs.Decides.{decides_alike}
use Rattle.spectrum.proofs.Extremes.{le_le_z}
use Rattle.spectrum.proofs.Kept.{Kept, kept_keeps, keeps_kept}
use Rattle.spectrum.proofs.Results.{kept_at, kept_end, kept_by, unmoved}
use Rattle.spectrum.specs.Distances.{keeps}
use Rattle.spectrum.specs.Gaps.{good_gaps}
use Rattle.spectrum.specs.Stabilising.{stabilise}
use Rattle.spectrum.specs.Values.{at, top, total}
use Rattle.spectrum.specs.Inner.{◌≼◌}
use Rattle.nlsf_stabilize_stays.specs.Inner.{stays}

-- ---- what one test or another says

neither : (a b : Bool) → a || b ≡ false → (a ≡ false) × (b ≡ false)
neither true b e = (e, cc)
neither false b e = (refl, e)

either : {A : Type 0} (a b : Bool) → a || b ≡ true → (a ≡ true → A) → (b ≡ true → A) → A
either true b e f h = f refl
either false b e f h = h e

-- ---- one place: the gap is not negative, and x keeps it from p

pub record Place (p g x : ℤ) : Type 0 where
  pub nat : pos 0 ≼ g
  pub kept : (p +ℤ g) ≼ x

module _ (p g x : ℤ) where
  place_kept : lt_z g (pos 0) || lt_z x (p +ℤ g) ≡ false → Place p g x
  place_kept e =
      let b = neither (lt_z g (pos 0)) (lt_z x (p +ℤ g)) e in
      record { nat = lt_z_false g (pos 0) b.0; kept = lt_z_false x (p +ℤ g) b.1 }

  place_lost : lt_z g (pos 0) || lt_z x (p +ℤ g) ≡ true → Place p g x → ⊥
  place_lost e k =
      either (lt_z g (pos 0)) (lt_z x (p +ℤ g)) e (λ h. omega (arith, lt_z_true g (pos 0) h, k.nat))
      (λ h. omega (arith, lt_z_true x (p +ℤ g) h, k.kept))

-- ---- all places: the first i, and the last, whose gap is 1 or more

abbrev pub Passed : List ℤ → List ℤ → ℕ → Type 0
Passed g v i = (k : ℕ) → k < i → Place (at (pos 0 ∷ v) k) (at g k) (at v k)

-- the tests of a place and of the last gap
abbrev pub lost_at : List ℤ → List ℤ → ℕ → Bool
lost_at g v i = lt_z (at g i) (pos 0) || lt_z (at v i) (at (pos 0 ∷ v) i +ℤ at g i)

abbrev pub ends_at : List ℤ → List ℤ → ℕ → Bool
ends_at g v i = le_z (pos 1) (at g i) && le_z (at (pos 0 ∷ v) i +ℤ at g i) top

passed_one : (g v : List ℤ) (i : ℕ) → Passed g v i → lost_at g v i ≡ false → Passed g v (suc i)
passed_one g v i p e k h =
    below_more (λ j. Place (at (pos 0 ∷ v) j) (at g j) (at v j)) i p (place_kept (at (pos 0 ∷ v) i) (at g i) (at v i) e) k (omega arith)

pub passed_two : (g v : List ℤ) (i : ℕ) → Passed g v i → lost_at g v i || lost_at g v (suc i) ≡ false → Passed g v (suc (suc i))
passed_two g v i p e =
    let b = neither (lost_at g v i) (lost_at g v (suc i)) e in passed_one g v (suc i) (passed_one g v i p b.0) b.1

abbrev Ended : List ℤ → List ℤ → ℕ → Type 0
Ended g v i = (pos 1 ≼ at g i) × ((at (pos 0 ∷ v) i +ℤ at g i) ≼ top)

-- the gaps lie side by side between p and 32,768
kept_total : (p : ℤ) (v g : List ℤ) → length g ≡ suc (length v) → Kept p v g → (p +ℤ total g) ≼ top
unfolding Kept total
kept_total p [] [] l k = absurd k
kept_total p [] (a ∷ []) l k = omega (arith, sum_parts p (a +ℤ pos 0), sum_parts a (pos 0), sum_parts p a)
kept_total p [] (a ∷ (b ∷ g)) l k = absurd (omega arith)
kept_total p (x ∷ v) [] l k = absurd k
kept_total p (x ∷ v) (a ∷ g) l k =
    let f : (p +ℤ a) ≼ x = k.0 in
    let s = total g in
    omega (arith, kept_total x v g (suc_inj l) k.1, sum_parts p (a +ℤ s), sum_parts a s, sum_parts p a, sum_parts x s)

module _ (g v : List ℤ) (l : length g ≡ suc (length v)) where
  stays_decides : Decides (stays g v) (Passed g v (length v) × Ended g v (length v))
  unfolding good_gaps
  stays_decides =
      let n = length v in
      let none = every (le_z (pos 0)) g in
      let some = le_z (pos 1) (at g n) in
      let few = le_z (total g) top in
      record {
        sure = λ e.
            let a = and_both (none && (some && few)) (keeps g v) e in
            let b = and_both none (some && few) a.0 in
            let k = keeps_kept v g l a.1 in (
              λ i h. record { nat = le_z_true (pos 0) (at g i) (every_at (le_z (pos 0)) g (pos 0) b.0 i (omega arith)); kept = kept_at (pos 0) v g k i h },
              (le_z_true (pos 1) (at g n) (and_both some few b.1).0, kept_end (pos 0) v g k),
            );
        seen = λ q.
            let k = kept_by (pos 0) v g l (λ i h. (q.0 i h).kept) q.1.1 in
            let nat = below_more (λ i. pos 0 ≼ at g i) n (λ i h. (q.0 i h).nat) (omega (arith, q.1.0)) in
            both_and (none && (some && few)) (keeps g v)
            (both_and none (some && few) (at_every (le_z (pos 0)) g (pos 0) (λ i h. le_le_z (pos 0) (at g i) (nat i (omega arith))))
            (both_and some few (le_le_z (pos 1) (at g n) q.1.0) (le_le_z (total g) top (omega (arith, kept_total (pos 0) v g l k, sum_parts (pos 0) (total g))))))
            (kept_keeps v g k);
      }

  -- a place that fails, one of two that fails, the last gap after all places passed, and the last place with the last gap
  lost_not : (i : ℕ) → i < length v → lost_at g v i ≡ true → false ≡ stays g v
  lost_not i h e =
      decides_alike (record { sure = λ f. absurd (subst T (sym f) tt); seen = λ q. absurd (place_lost (at (pos 0 ∷ v) i) (at g i) (at v i) e (q.0 i h)) })
      stays_decides

  pub stays_not : (i : ℕ) → suc i < length v → lost_at g v i || lost_at g v (suc i) ≡ true → false ≡ stays g v
  stays_not i h e = either (lost_at g v i) (lost_at g v (suc i)) e (lost_not i (omega arith)) (lost_not (suc i) h)

  pub stays_last : (i : ℕ) → i ≡ length v → Passed g v i → ends_at g v i ≡ stays g v
  stays_last i e p =
      let some = le_z (pos 1) (at g i) in
      let most = le_z (at (pos 0 ∷ v) i +ℤ at g i) top in
      decides_alike {P = Passed g v i × Ended g v i}
      (record {
        sure = λ h.
            let b = and_both some most h in (p, (le_z_true (pos 1) (at g i) b.0, le_z_true (at (pos 0 ∷ v) i +ℤ at g i) top b.1));
        seen = λ q. both_and some most (le_le_z (pos 1) (at g i) q.1.0) (le_le_z (at (pos 0 ∷ v) i +ℤ at g i) top q.1.1);
      })
      (subst⁻¹ (λ (n : ℕ). Decides (stays g v) (Passed g v n × Ended g v n)) e stays_decides)

  pub stays_odd : (i : ℕ) → suc i ≡ length v → Passed g v i → not (lost_at g v i) && ends_at g v (suc i) ≡ stays g v
  stays_odd i n p = go (lost_at g v i) refl
    where
      go : (t : Bool) → lost_at g v i ≡ t → not t && ends_at g v (suc i) ≡ stays g v
      go true e = lost_not i (omega arith) e
      go false e = stays_last (suc i) n (passed_one g v i p e)

-- ---- what the stabiliser makes of a vector that stays: it is left as it is, with 0 moves

pub stays_still : (v g : List ℤ) → length g ≡ suc (length v) → stays g v ≡ true → record { vector = v; moves = 0 } ≡ stabilise g v
stays_still v g l e =
    let a = and_both (good_gaps (length v) g) (keeps g v) e in sym (unmoved g v l a.0 a.1)
