-- The loop of moves: what is still to be run from a vector, with the moves made. Assumes nothing.
use Prim.Native.Nat.{ℕ, suc, ◌+◌, ◌-◌, ◌<◌}
use mathlib.Core.Path.{◌≡◌, sym, ap, ◌∙◌}
use mathlib.Core.Bool.{Bool, true, false, ◌&&◌}
use mathlib.Core.List.{List}
use native.Mathlib.Omega.{arith}
use lib.IntN.{ℤ, pos}
use lib.Signed.{le_z}
use lib.ListN.{length}
use Rattle.lists.specs.Every.{every}
use Rattle.lists.proofs.EveryLaws.{at_every}
use Rattle.deciding.proofs.Both.{both_and}
use Rattle.spectrum.proofs.Extremes.{le_le_z}
use Rattle.spectrum.proofs.FirstSmallest.{after, turn_stop, turn_move, turn_end}
use Rattle.spectrum.proofs.MoveBounds.{good_at, last_gap}
use Rattle.spectrum.specs.Distances.{keeps, place, move}
use Rattle.spectrum.specs.Fallback.{fallback}
use Rattle.spectrum.specs.Gaps.{good_gaps, Good}
use Rattle.spectrum.specs.Stabilising.{Stable, run, stabilise}
use Rattle.spectrum.specs.Values.{at, top, total}
use Rattle.nlsf_stabilize_stays.specs.Inner.{stays}
use Rattle.nlsf_stabilize_slack.specs.Inner.{Held}
use Rattle.nlsf_stabilize.specs.Inner.{Ready}

left : (m : ℕ) → m < 20 → 20 - m ≡ suc (20 - (m + 1))
left m h = omega arith

pub run_start : (g v : List ℤ) → after 0 (run 20 g v) ≡ stabilise g v
unfolding stabilise
run_start g v =
    let s = run 20 g v in
    let z : 0 + s.moves ≡ s.moves = omega arith in ap (λ (k : ℕ). record { vector = s.vector; moves = k }) z

pub run_stop : (g v : List ℤ) (m : ℕ) (s : Stable) → length g ≡ suc (length v) → Good g → keeps g v ≡ true → after m (run (20 - m) g v) ≡ s
    → record { vector = v; moves = m } ≡ s
run_stop g v m s l r k e = sym (turn_stop m (20 - m) g v l r k) ∙ e

pub run_on : (g u : List ℤ) (i m : ℕ) (s : Stable) → m < 20 → keeps g u ≡ false → i ≡ place g u → after m (run (20 - m) g u) ≡ s
    → after (m + 1) (run (20 - (m + 1)) g (move g u i)) ≡ s
run_on g u i m s h k e q =
    ap (λ (j : ℕ). after (m + 1) (run (20 - (m + 1)) g (move g u j))) e
    ∙ sym (turn_move m (20 - (m + 1)) g u k) ∙ ap (λ (n : ℕ). after m (run n g u)) (sym (left m h)) ∙ q

pub run_out : (g v w : List ℤ) (m : ℕ) (s : Stable) → m ≡ 20 → w ≡ fallback g v → after m (run (20 - m) g v) ≡ s
    → record { vector = w; moves = m } ≡ s
run_out g v w m s h f e =
    let z : 20 - m ≡ 0 = omega arith in
    ap (λ (l : List ℤ). record { vector = l; moves = m }) f ∙ sym (turn_end m g v)
    ∙ ap (λ (n : ℕ). after m (run n g v)) (sym z) ∙ e

-- ---- a turn of the loop: v, w and s hold a vector whose gaps are not all kept, m moves are made, and what is still to be run from it
-- gives the whole answer

pub record Turn (g v₀ v w s : List ℤ) (m : ℕ) : Type 0 where
  pub values : List ℤ
  pub held : Held g values v w s
  pub rest : after m (run (20 - m) g values) ≡ stabilise g v₀
  pub broken : keeps g values ≡ false

-- under the gap set's rule, the test that callers make is the definition's
pub stays_keeps : (g v : List ℤ) → Ready g v → stays g v ≡ keeps g v
unfolding good_gaps
stays_keeps g v m =
    let n = length v in
    let r = m.rule.good in
    let none = at_every (le_z (pos 0)) g (pos 0) (λ i h. le_le_z (pos 0) (at g i) (omega (arith, good_at g r i))) in
    let some = le_le_z (pos 1) (at g n) (omega (arith, last_gap g n m.long r, good_at g r n)) in
    let few = le_le_z (total g) top (omega (arith, m.rule.most)) in
    ap (λ (t : Bool). t && keeps g v)
    (both_and (every (le_z (pos 0)) g) (le_z (pos 1) (at g n) && le_z (total g) top) none (both_and (le_z (pos 1) (at g n)) (le_z (total g) top) some few))
