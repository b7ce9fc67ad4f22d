-- The checks are the definition's, in its order. Assumes nothing.
use Rattle.std.proofs.Common.{arith, rules, sym, ◌∙◌, length}
use mir.Syntax.{w32}
use mir.Val.{SFits}
use mir.Facts.{to_z-of_z}
use Rattle.spectrum.proofs.CallLaws.{lengths_are, stabilise_answers}
use Rattle.nlsf_stabilize.proofs.CallLaws.{ruled_some, ruled_none, refused_lengths, refused_gaps, accepted, ready, stays_answers}
use Rattle.nlsf_stabilize.proofs.stabilised.Goals as goal

pub stays_run-requires : goal.stays_run-requires
stays_run-requires c =
    let l = lengths_are c.args.vector.now c.args.gaps.now (sym c.lengths_ok.ensures ∙ c.if-not-lengths_ok.false) in
    omega (arith, l.one_more)

pub ruled_sum_run-requires : goal.ruled_sum_run-requires
ruled_sum_run-requires c =
    let l = lengths_are c.args.vector.now c.args.gaps.now (sym c.lengths_ok.ensures ∙ c.if-not-lengths_ok.false) in
    (l.one_more, l.most)

pub stabilise_run-requires : goal.stabilise_run-requires
stabilise_run-requires c =
    let v = c.args.vector.now in
    let g = c.args.gaps.now in
    let t = sym c.lengths_ok.ensures ∙ c.if-not-lengths_ok.false in
    let l = lengths_are v g t in
    let r = ruled_some (length v) g c.in-Some.sum (omega (arith, l.one_more)) c.in-Some.ensures in
    let f : SFits w32 c.in-Some.sum = search rules in
    ((ready v g (accepted v g t r.0), to_z-of_z f ∙ r.1), sym c.stays_run.ensures ∙ c.if-stays_run.false)

pub returns-then-not-lengths_ok : goal.returns-then-not-lengths_ok
returns-then-not-lengths_ok c =
    refused_lengths c.args.vector.now c.args.gaps.now (sym c.lengths_ok.ensures ∙ c.if-not-lengths_ok.true)

pub returns-then-stays_run : goal.returns-then-stays_run
returns-then-stays_run c =
    stays_answers c.args.vector.now c.args.gaps.now (sym c.lengths_ok.ensures ∙ c.if-not-lengths_ok.false)
    (sym c.stays_run.ensures ∙ c.if-stays_run.true)

pub returns-in-Some : goal.returns-in-Some
returns-in-Some c =
    let v = c.args.vector.now in
    let g = c.args.gaps.now in
    let t = sym c.lengths_ok.ensures ∙ c.if-not-lengths_ok.false in
    let l = lengths_are v g t in
    let r = ruled_some (length v) g c.in-Some.sum (omega (arith, l.one_more)) c.in-Some.ensures in
    stabilise_answers v g c.stabilise_run.new.v c.stabilise_run.result (accepted v g t r.0) c.stabilise_run.ensures

pub returns-in-None : goal.returns-in-None
returns-in-None c =
    let v = c.args.vector.now in
    let g = c.args.gaps.now in
    let t = sym c.lengths_ok.ensures ∙ c.if-not-lengths_ok.false in
    let l = lengths_are v g t in
    refused_gaps v g t (ruled_none (length v) g (omega (arith, l.one_more)) c.in-None.ensures)
