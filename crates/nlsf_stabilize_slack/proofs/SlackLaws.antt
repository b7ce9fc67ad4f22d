-- Slacks and sums of gaps, filled in place by place: what holds before each turn, and that past the last value the vector is held.
-- Assumes nothing.
use Prim.Native.Nat.{ℕ, zero, suc, ◌+◌, ◌≤◌, ◌<◌}
use mathlib.Core.Path.{◌≡◌, refl, sym, ap, ap₂, subst, ◌∙◌}
use mathlib.Core.List.{List, ◌∷◌}
use mathlib.Core.Logic.{◌≢◌, ⊎_elim}
use native.Mathlib.Omega.{arith}
use native.Mathlib.Nat.{not-suc-le-zero, eq-or-lt_of_le}
use native.Mathlib.Numerals.{add-one}
use lib.IntN.{ℤ, pos, ◌+ℤ◌, ◌-ℤ◌, -ℤ-+ℤ_cancel}
use lib.ListN.{length, take, set, replicate, length-set, get_or-replicate, get_or-eq_default}
use lib.Seq.{take_all, get_or-set_same, get_or-set_other}
use mir.Syntax.{w16, w32}
use mir.Val.{SFits}
use Rattle.deciding.proofs.Choice.{by_lt}
use Rattle.ints.proofs.Sums.{up_sum, down_sum, up_diff, down_diff}
use Rattle.ints.proofs.Widths.{fits_up, fits_down, parts_fit}
use Rattle.ints.specs.Parts.{up, down}
use Rattle.spectrum.proofs.Capped.{capped_same, within_by, within_wider}
use Rattle.spectrum.proofs.MoveBounds.{cut}
use Rattle.spectrum.proofs.SumLaws.{sum_more}
use Rattle.spectrum.specs.Gaps.{Ruled}
use Rattle.spectrum.specs.Values.{at, top, total, Within}
use Rattle.nlsf_stabilize_slack.proofs.HeldLaws.{inside}
use Rattle.nlsf_stabilize_slack.specs.Inner.{bounded, Held}

-- i values passed: up to place i the slacks and the sums stand, behind it w is still what the gaps leave
pub record Filled (g v w s : List ℤ) (i : ℕ) : Type 0 where
  pub slacks : length w ≡ 18
  pub sums : length s ≡ 18
  pub above : (j : ℕ) → j ≤ i → at w j +ℤ total (take j g) ≡ bounded v j
  pub left : (j : ℕ) → i < j → j < 18 → at w j ≡ top -ℤ total g
  pub sum : (j : ℕ) → j ≤ i → at s j ≡ total (take j g)
  pub small : (j : ℕ) → j < i → (down (at v j) ≤ 32768) × (up (at v j) ≤ 32767)

-- ---- the sum of the gaps up to value i lies in 0 .. 32,768

pub record NextSum (g : List ℤ) (i : ℕ) (z : ℤ) : Type 0 where
  pub is : z ≡ total (take (i + 1) g)
  pub none : down z ≡ 0
  pub most : up z ≤ 32768

pub next_sum : (g : List ℤ) (n i : ℕ) (z : ℤ) → Ruled g → length g ≡ suc n → i < n → z ≡ total (take i g) → NextSum g i (z +ℤ at g i)
next_sum g n i z r l h e =
    let c = cut g i n l h r.good in
    rw e
    record {
      is = sym (sum_more g i (omega arith));
      none = omega (arith, down_sum (total (take i g)) (at g i), c.before0, c.here0);
      most = omega (arith, up_sum (total (take i g)) (at g i), c.all, r.most);
    }

pub sum_fits : {g : List ℤ} {i : ℕ} (z : ℤ) → NextSum g i z → SFits w32 z
sum_fits z n = parts_fit z (omega (arith, n.most)) (omega (arith, n.none))

pub slack_fits : {g : List ℤ} {i : ℕ} (x z : ℤ) → SFits w16 x → NextSum g i z → SFits w32 (x -ℤ z)
slack_fits x z f n =
    parts_fit (x -ℤ z) (omega (arith, up_diff x z, n.none, fits_up x f)) (omega (arith, down_diff x z, n.most, fits_down x f))

-- ---- places

pub filled_start : (g v w s : List ℤ) → w ≡ replicate 18 (top -ℤ total g) → s ≡ replicate 18 (pos 0) → Filled g v (set w 0 (pos 0)) s 0
unfolding total
filled_start g v w s p q =
    rw (p, q)
    record {
      slacks = refl;
      sums = refl;
      above = above0;
      left = λ j h l. get_or-set_other (replicate 18 (top -ℤ total g)) 0 j (pos 0) (pos 0) (later j h)
          ∙ get_or-replicate 18 j (top -ℤ total g) (pos 0) l;
      sum = sum0;
      small = λ j h. absurd (not-suc-le-zero h);
    }
  where
    later : (j : ℕ) → 0 < j → j ≢ 0
    later j h e = omega arith

    above0 : (j : ℕ) → j ≤ 0 → at (set (replicate 18 (top -ℤ total g)) 0 (pos 0)) j +ℤ total (take j g) ≡ bounded v j
    above0 zero h = refl
    above0 (suc j) h = absurd (not-suc-le-zero h)

    sum0 : (j : ℕ) → j ≤ 0 → at (replicate 18 (pos 0)) j ≡ total (take j g)
    sum0 zero h = refl
    sum0 (suc j) h = absurd (not-suc-le-zero h)

-- one turn stores the sum of the gaps up to value i, and how far the value lies above it
pub filled_step : (g v w s : List ℤ) (i : ℕ) (a : ℤ) → i < length v → length v ≤ 16 → NextSum g i a → SFits w16 (at v i)
    → Filled g v w s i → Filled g v (set w (i + 1) (at v i -ℤ a)) (set s (i + 1) a) (i + 1)
filled_step g v w s i a h m n f p =
    record {
      slacks = length-set w (i + 1) (at v i -ℤ a) ∙ p.slacks;
      sums = length-set s (i + 1) a ∙ p.sums;
      above = λ j l. ⊎_elim
          (λ (q : j ≡ i + 1). subst (λ (k : ℕ). at (set w (i + 1) (at v i -ℤ a)) k +ℤ total (take k g) ≡ bounded v k) (sym q) here)
          (λ (q : j < i + 1). ap (λ (z : ℤ). z +ℤ total (take j g)) (get_or-set_other w (i + 1) j (at v i -ℤ a) (pos 0) (less j q))
          ∙ p.above j (omega arith))
          (eq-or-lt_of_le l);
      left = λ j l k. get_or-set_other w (i + 1) j (at v i -ℤ a) (pos 0) (more j l) ∙ p.left j (omega arith) k;
      sum = λ j l. ⊎_elim
          (λ (q : j ≡ i + 1). subst (λ (k : ℕ). at (set s (i + 1) a) k ≡ total (take k g)) (sym q)
          (get_or-set_same s (i + 1) a (pos 0) (omega (arith, p.sums)) ∙ n.is))
          (λ (q : j < i + 1). get_or-set_other s (i + 1) j a (pos 0) (less j q) ∙ p.sum j (omega arith))
          (eq-or-lt_of_le l);
      small = λ j l. ⊎_elim
          (λ (q : j ≡ i). subst (λ (k : ℕ). (down (at v k) ≤ 32768) × (up (at v k) ≤ 32767)) (sym q)
          (omega (arith, fits_down (at v i) f), omega (arith, fits_up (at v i) f)))
          (λ (q : j < i). p.small j q)
          (eq-or-lt_of_le (omega arith));
    }
  where
    less : (j : ℕ) → j < i + 1 → j ≢ i + 1
    less j l q = omega arith

    more : (j : ℕ) → i + 1 < j → j ≢ i + 1
    more j l q = omega arith

    here : at (set w (i + 1) (at v i -ℤ a)) (i + 1) +ℤ total (take (i + 1) g) ≡ bounded v (i + 1)
    here =
        ap₂ (λ (y z : ℤ). y +ℤ z) (get_or-set_same w (i + 1) (at v i -ℤ a) (pos 0) (omega (arith, p.slacks))) (sym n.is)
        ∙ -ℤ-+ℤ_cancel (at v i) a
        ∙ sym (inside v i h)
        ∙ ap (bounded v) (sym (add-one i))

pub filled_end : (g v w s : List ℤ) (i : ℕ) → i ≡ length v → 0 < length v → length v ≤ 16 → length g ≡ suc (length v) → Ruled g
    → Filled g v w s i → Held g v v w s
filled_end g v w s i e h m l r p =
    record {
      rule = r;
      long = l;
      some = h;
      few = m;
      near = within_wider 32768 32767 32768 v (omega arith) within;
      stored = sym (capped_same 32768 v within);
      slacks = p.slacks;
      above = λ j k. by_lt i j (λ q. behind j q k) (λ q. p.above j q);
      sums = p.sums;
      sum = λ j k. p.sum j (omega arith);
    }
  where
    within : Within 32768 32767 v
    within = within_by 32768 32767 v (λ j k. p.small j (omega arith))

    behind : (j : ℕ) → i < j → j < 18 → at w j +ℤ total (take j g) ≡ bounded v j
    behind j q k =
        ap₂ (λ (y z : ℤ). y +ℤ z) (p.left j q k) (ap total (take_all j g (omega arith)))
        ∙ -ℤ-+ℤ_cancel top (total g)
        ∙ sym (get_or-eq_default (pos 0 ∷ v) top {n = j} (omega arith))
