-- A gap more, and at the end the rule. Assumes nothing.
use Rattle.std.proofs.Common.{◌≡◌, ℕ, ◌<◌, Bool, true, false, ◌&&◌, List, length, take, arith, rules, refl, sym, ap, ap₂, ◌∙◌, Some}
use Rattle.std.specs.Int.Signed.{le_z}
use lib.IntN.{ℤ, pos, ◌+ℤ◌}
use lib.Seq.{take-length}
use mir.Syntax.{w16, w32}
use mir.Val.{SFits, to_z}
use mir.Facts.{to_z-of_z}
use Rattle.lists.specs.Every.{every}
use Rattle.spectrum.specs.Gaps.{good_gaps}
use Rattle.spectrum.specs.Values.{at, top, total}
use Rattle.spectrum.proofs.SumLaws.{sum_more, nearer, fits, every_more}
use Rattle.spectrum.proofs.Widened.{wide}
use Rattle.nlsf_stabilize.proofs.CallLaws.{sum_some, sum_none}
use Rattle.nlsf_stabilize.proofs.gaps.ruled_sum_run.Goals as goal

pub loop-gap-init : goal.loop-gap-init
unfolding total
loop-gap-init c = record { none = refl; near = record { high = omega arith; low = omega arith }; all = refl }

pub overflow_add-sum : goal.overflow_add-sum
overflow_add-sum c =
    let i = c.loop-gap.gap-index in
    let f : SFits w16 (at c.args.g.now i) = search rules in
    let e = c.from-sum.ensures ∙ to_z-of_z f in
    rw (e, to_z-of_z (wide f)) (fits i (to_z w32 c.loop-gap.sum-bits) (at c.args.g.now i) c.loop-gap.invariant.near (omega arith) f)

pub loop-gap-preserved : goal.loop-gap-preserved
loop-gap-preserved c =
    let g = c.args.g.now in
    let i = c.loop-gap.gap-index in
    let v = c.loop-gap.invariant in
    let a = to_z w32 c.loop-gap.sum-bits in
    let f : SFits w16 (at g i) = search rules in
    let l : i < 17 = omega arith in
    let e = c.from-sum.ensures ∙ to_z-of_z f in
    let s = to_z-of_z (fits i a (at g i) v.near l f) in
    rw (e, to_z-of_z f, to_z-of_z (wide f), s)
    record {
      none = ap (λ (t : Bool). t && le_z (pos 0) (at g i)) v.none ∙ sym (every_more (le_z (pos 0)) g i (omega arith));
      near = nearer i a (at g i) v.near l f;
      all = ap (λ (z : ℤ). z +ℤ at g i) v.all ∙ sym (sum_more g i (omega arith));
    }

-- past the last gap, the sum is the whole one
whole_sum : (g : List ℤ) (i : ℕ) (s : ℤ) → i ≡ length g → s ≡ total (take i g) → s ≡ total g
whole_sum g i s e q = q ∙ ap (λ (n : ℕ). total (take n g)) e ∙ ap total (take-length g)

-- and the test is the rule
whole_test : (g : List ℤ) (n i : ℕ) (none : Bool) (s : ℤ) → i ≡ length g → none ≡ every (le_z (pos 0)) (take i g) → s ≡ total (take i g)
    → (none && (le_z (pos 1) (at g n) && le_z s top)) ≡ good_gaps n g
unfolding good_gaps
whole_test g n i none s e p q =
    ap₂ (λ (t : Bool) (z : ℤ). t && (le_z (pos 1) (at g n) && le_z z top))
    (p ∙ ap (λ (k : ℕ). every (le_z (pos 0)) (take k g)) e ∙ ap (every (le_z (pos 0))) (take-length g))
    (whole_sum g i s e q)

pub returns-then-none-g : goal.returns-then-none-g
returns-then-none-g c =
    let g = c.args.g.now in
    let n = c.args.n in
    let l = c.loop-gap in
    let f : SFits w16 (at g n) = search rules in
    let e : l.gap-index ≡ length g = omega arith in
    let t : good_gaps n g ≡ true =
    sym (whole_test g n l.gap-index l.none (to_z w32 l.sum-bits) e l.invariant.none l.invariant.all) ∙ (rw (to_z-of_z f) at c.if-none-g.true) in
    ap (λ (z : ℤ). Some z) (whole_sum g l.gap-index (to_z w32 l.sum-bits) e l.invariant.all) ∙ sum_some n g (omega arith) t

pub returns-else-none-g : goal.returns-else-none-g
returns-else-none-g c =
    let g = c.args.g.now in
    let n = c.args.n in
    let l = c.loop-gap in
    let f : SFits w16 (at g n) = search rules in
    let e : l.gap-index ≡ length g = omega arith in
    let t : good_gaps n g ≡ false =
    sym (whole_test g n l.gap-index l.none (to_z w32 l.sum-bits) e l.invariant.none l.invariant.all) ∙ (rw (to_z-of_z f) at c.if-none-g.false) in
    sum_none n g t
