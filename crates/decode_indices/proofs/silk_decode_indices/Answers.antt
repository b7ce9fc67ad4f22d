-- The first refusal, or the record that the frame's syntax gives. Assumes nothing.
use Rattle.std.proofs.Common.{◌∙◌, sym, ap, subst, arith, rules}
use mir.Syntax.{w16}
use mir.Val.{SFits}
use mir.Facts.{to_z-of_z}
use Rattle.refusals.specs.Inner.{number_of, refusal_of}
use Rattle.refusals.proofs.RefusalLaws.{number_refuses, and_refuses}
use Rattle.entcode.specs.Reader.{Bytes}
use Rattle.tree.specs.Asks.{Got}
use Rattle.silk.specs.declared.Indices.{Indices}
use Rattle.silk.proofs.IndexRows.{index_rows_lem}
use Rattle.silk.specs.Inner.Indices.{Upto}
use Rattle.silk.specs.Record.{Shape}
use Rattle.silk.specs.FrameCalls.{indices_got}
use Rattle.silk.proofs.IndexCalls.{rule_accepts, indices_ended, indices_runs, indices_refused}
use Rattle.decode_indices.proofs.silk_decode_indices.Goals as goal

pub invariant_of-r : goal.invariant_of-r
invariant_of-r c =
    let z = sym (ap refusal_of c.in-Ok.is)
    ∙ and_refuses c.gate.result c.numbers_rule.result c.and.ensures c.gate.ensures c.numbers_rule.ensures in
    let a = rule_accepts c.args.packet.now c.args.d c.args.s (sym z) in
    record { core = a.passed.sound.core }

pub all_indices-requires-clause-few : goal.all_indices-requires-clause-few
all_indices-requires-clause-few c =
    let z = sym (ap refusal_of c.in-Ok.is)
    ∙ and_refuses c.gate.result c.numbers_rule.result c.and.ensures c.gate.ensures c.numbers_rule.ensures in
    let a = rule_accepts c.args.packet.now c.args.d c.args.s (sym z) in
    omega (arith, a.passed.low)

pub all_indices-requires-clause-rows : goal.all_indices-requires-clause-rows
all_indices-requires-clause-rows c = let r = c.index_rows-rows in index_rows_lem r.result r.ensures

pub all_indices-requires-clause-rate : goal.all_indices-requires-clause-rate
all_indices-requires-clause-rate c =
    let z = sym (ap refusal_of c.in-Ok.is)
    ∙ and_refuses c.gate.result c.numbers_rule.result c.and.ensures c.gate.ensures c.numbers_rule.ensures in
    let a = rule_accepts c.args.packet.now c.args.d c.args.s (sym z) in
    (a.numbers.rate, a.numbers.subframes, a.numbers.active)

pub accepted-requires : goal.accepted-requires
accepted-requires c =
    let z = sym (ap refusal_of c.in-Ok.is)
    ∙ and_refuses c.gate.result c.numbers_rule.result c.and.ensures c.gate.ensures c.numbers_rule.ensures in
    let a = rule_accepts c.args.packet.now c.args.d c.args.s (sym z) in
    let y : Bytes c.args.packet.now = λ i. omega (arith, c.type_inv.packet i) in
    let h : Shape c.args.«record» = record { gains = search rules; ltp = search rules; nlsf = search rules } in
    subst (λ (q : Got Indices). Upto 2 q.value.signal) c.all_indices.ensures.is
    (indices_ended _ _ _ _ y a h).holds.range.signal

pub returns-in-Ok : goal.returns-in-Ok
returns-in-Ok c =
    let z = sym (ap refusal_of c.in-Ok.is)
    ∙ and_refuses c.gate.result c.numbers_rule.result c.and.ensures c.gate.ensures c.numbers_rule.ensures in
    let f : SFits w16 c.args.s.prevlag = search rules in
    (rw (to_z-of_z f) at c.accepted.ensures)
    ∙ ap (λ (q : Got Indices). indices_got c.args.s.prevlag q) (sym c.all_indices.ensures.is)
    ∙ indices_runs c.args.packet.now c.args.d c.args.«record» c.args.s (sym z)

pub returns-in-Err : goal.returns-in-Err
returns-in-Err c =
    let n = c.in-Err.refusal in
    let e = sym (ap refusal_of c.in-Err.is)
    ∙ and_refuses c.gate.result c.numbers_rule.result c.and.ensures c.gate.ensures c.numbers_rule.ensures in
    let f : SFits w16 c.args.s.prevlag = search rules in
    rw (c.from.ensures, to_z-of_z f)
    (indices_refused c.args.packet.now c.args.d c.args.«record» c.args.s (number_of n) e (number_refuses n))
