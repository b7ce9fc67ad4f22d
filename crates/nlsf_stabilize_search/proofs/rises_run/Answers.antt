-- A step below 0 is met, or none so far is. Assumes nothing.
use Rattle.std.proofs.Common.{◌≡◌, ℕ, suc, ◌+◌, ◌-◌, Bool, List, true, false, arith, rules, sym, ap, subst, ◌∙◌}
use mathlib.Core.Bool.{true≢false, false≢true}
use native.Mathlib.Nat.{not-suc-le-zero}
use lib.IntN.{ℤ}
use lib.Signed.{lt_z}
use mir.Syntax.{w32}
use mir.Val.{SFits, to_z, of_z}
use mir.Facts.{to_z-of_z}
use Rattle.ints.proofs.Order.{lt_z_true, lt_z_false}
use Rattle.spectrum.specs.Values.{at}
use Rattle.nlsf_stabilize_search.specs.Inner.{UpTo}
use Rattle.nlsf_stabilize_search.proofs.SearchLaws.{up_to_more}
use Rattle.nlsf_stabilize_search.proofs.rises_run.Goals as goal

-- the test as the contract has it: the value at i is less than the value before it, or not
test : (w : List ℤ) (i x : ℕ) (t : Bool) → SFits w32 (at w i) → to_z w32 x ≡ at w (i - 1) → suc (i - 1) ≡ i
    → lt_z (to_z w32 (of_z w32 (at w i))) (to_z w32 x) ≡ t → lt_z (at w (suc (i - 1))) (at w (i - 1)) ≡ t
test w i x t f v q e = rw q (rw (to_z-of_z f, v) at e)

pub loop-i-init : goal.loop-i-init
loop-i-init c =
    let f : SFits w32 (at c.args.w.now 0) = search rules in
    record { value = to_z-of_z f; rising = record { each = λ k h. absurd (not-suc-le-zero h) } }

pub returns-then-y-x : goal.returns-then-y-x
returns-then-y-x c =
    let w = c.args.w.now in
    let i = c.loop-i.i in
    let f : SFits w32 (at w i) = search rules in
    let q : suc (i - 1) ≡ i = omega arith in (
      λ e. absurd (false≢true e),
      λ e. record {
        place = i - 1;
        within = omega arith;
        less = lt_z_true (at w (suc (i - 1))) (at w (i - 1)) (test w i _ true f c.loop-i.invariant.value q c.if-y-x.true);
      },
    )

pub loop-i-preserved : goal.loop-i-preserved
loop-i-preserved c =
    let w = c.args.w.now in
    let i = c.loop-i.i in
    let f : SFits w32 (at w i) = search rules in
    let q : suc (i - 1) ≡ i = omega arith in
    let e : i + 1 - 1 ≡ i = omega arith in
    let g : i - 1 + 1 ≡ i = omega arith in
    let t = test w i _ false f c.loop-i.invariant.value q c.if-y-x.false in
    record {
      value = to_z-of_z f ∙ ap (at w) (sym e);
      rising = subst (λ (m : ℕ). UpTo m w) (g ∙ sym e)
          (up_to_more w (i - 1) c.loop-i.invariant.rising (lt_z_false (at w (suc (i - 1))) (at w (i - 1)) t));
    }

pub returns : goal.returns
returns c =
    (λ e. record { each = λ k h. c.loop-i.invariant.rising.each k (omega arith) }, λ e. absurd (true≢false e))
