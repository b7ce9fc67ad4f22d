-- The sums of gaps and the slacks fit, and stand place by place. Assumes nothing.
use Rattle.std.proofs.Common.{length, refl, arith, rules, ◌∙◌}
use mir.Syntax.{w16}
use mir.Val.{SFits}
use mir.Facts.{to_z-of_z}
use Rattle.spectrum.proofs.Widened.{wide}
use Rattle.spectrum.specs.Values.{at, total}
use Rattle.nlsf_stabilize_slack.proofs.SlackLaws.{next_sum, sum_fits, slack_fits, filled_start, filled_step, filled_end}
use Rattle.nlsf_stabilize_slack.proofs.slacks_run.Goals as goal

pub loop-i-init : goal.loop-i-init
unfolding total
loop-i-init c =
    let a = c.args in
    record { filled = filled_start a.g.now a.v.now a.w.now a.s.now c.requires.w_value.0 c.requires.w_value.1; all = refl }

pub overflow_add-sum : goal.overflow_add-sum
overflow_add-sum c =
    let p = c.requires.ruled.0 in
    let f : SFits w16 (at c.args.g.now c.loop-i.i) = search rules in
    let e = c.from-sum.ensures ∙ to_z-of_z f in
    rw (e, to_z-of_z (wide f)) (sum_fits _ (next_sum c.args.g.now (length c.args.v.now) c.loop-i.i _ p.0 p.1 (omega arith) c.loop-i.invariant.all))

pub overflow_sub-w : goal.overflow_sub-w
overflow_sub-w c =
    let p = c.requires.ruled.0 in
    let f : SFits w16 (at c.args.g.now c.loop-i.i) = search rules in
    let x : SFits w16 (at c.args.v.now c.loop-i.i) = search rules in
    let n = next_sum c.args.g.now (length c.args.v.now) c.loop-i.i _ p.0 p.1 (omega arith) c.loop-i.invariant.all in
    let d = c.from-sum.ensures ∙ to_z-of_z f in
    let e = c.from.ensures ∙ to_z-of_z x in
    rw (d, e, to_z-of_z (wide f), to_z-of_z (wide x), to_z-of_z (sum_fits _ n)) (slack_fits _ _ x n)

pub loop-i-preserved : goal.loop-i-preserved
loop-i-preserved c =
    let p = c.requires.ruled in
    let g = c.args.g.now in
    let v = c.args.v.now in
    let l = c.loop-i in
    let f : SFits w16 (at g l.i) = search rules in
    let x : SFits w16 (at v l.i) = search rules in
    let n = next_sum g (length v) l.i _ p.0.0 p.0.1 (omega arith) l.invariant.all in
    let d = c.from-sum.ensures ∙ to_z-of_z f in
    let e = c.from.ensures ∙ to_z-of_z x in
    rw (d, e, to_z-of_z (wide f), to_z-of_z (wide x), to_z-of_z (sum_fits _ n), to_z-of_z (slack_fits _ _ x n))
    record { filled = filled_step g v l.w l.s l.i _ (omega arith) p.1.1 n x l.invariant.filled; all = n.is }

pub returns : goal.returns
returns c =
    let p = c.requires.ruled in
    filled_end c.args.g.now c.args.v.now c.loop-i.w c.loop-i.s c.loop-i.i (omega arith) p.1.0 p.1.1 p.0.1 p.0.0 c.loop-i.invariant.filled
