-- Gate and numbers, then the fields. Assumes nothing.
use Rattle.std.proofs.Common.{◌≡◌, ◌∙◌, refl, sym, ap, rules}
use mathlib.Core.Bool.{Bool, cond}
use Rattle.refusals.specs.Inner.{number_of, refusal_of}
use Rattle.refusals.proofs.RefusalLaws.{number_refuses, and_refuses}
use Rattle.entcode.specs.Flat.{out}
use Rattle.silk.specs.Record.{Shape}
use Rattle.encode_indices.proofs.Calls.{rule_chosen, rule_early, rule_fields}
use Rattle.encode_indices.proofs.tell_rule.Goals as goal

pub fields_ok_run-requires : goal.fields_ok_run-requires
fields_ok_run-requires c =
    let e = sym (ap refusal_of c.in_ok-and.was)
    ∙ and_refuses c.gate.result c.numbers_rule.result c.and.ensures c.gate.ensures c.numbers_rule.ensures in
    let r = rule_chosen (out c.args.buf.now c.args.w) c.args.x c.args.s 0 e refl in
    (r.rate, r.subframes, r.active)

pub returns-then-fields_ok_run : goal.returns-then-fields_ok_run
returns-then-fields_ok_run c =
    let e = sym (ap refusal_of c.in_ok-and.was)
    ∙ and_refuses c.gate.result c.numbers_rule.result c.and.ensures c.gate.ensures c.numbers_rule.ensures in
    let h : Shape c.args.x = record {
      gains = search (rules, c.well_formed.1.1.0);
      ltp = search (rules, c.well_formed.1.1.0);
      nlsf = search (rules, c.well_formed.1.1.0);
    } in
    ap (λ (t : Bool). cond t 0 8) (sym c.if-fields_ok_run.true)
    ∙ rule_fields (out c.args.buf.now c.args.w) c.args.x c.args.s 0 e refl h _ c.fields_ok_run.ensures

pub returns-else-fields_ok_run : goal.returns-else-fields_ok_run
returns-else-fields_ok_run c =
    let e = sym (ap refusal_of c.in_ok-and.was)
    ∙ and_refuses c.gate.result c.numbers_rule.result c.and.ensures c.gate.ensures c.numbers_rule.ensures in
    let h : Shape c.args.x = record {
      gains = search (rules, c.well_formed.1.1.0);
      ltp = search (rules, c.well_formed.1.1.0);
      nlsf = search (rules, c.well_formed.1.1.0);
    } in
    ap (λ (t : Bool). cond t 0 8) (sym c.if-fields_ok_run.false)
    ∙ rule_fields (out c.args.buf.now c.args.w) c.args.x c.args.s 0 e refl h _ c.fields_ok_run.ensures

pub returns-in_err-and : goal.returns-in_err-and
returns-in_err-and c =
    let e = sym (ap refusal_of c.in_err-and.was)
    ∙ and_refuses c.gate.result c.numbers_rule.result c.and.ensures c.gate.ensures c.numbers_rule.ensures in
    let r : refusal_of c.from_residual.result ≡ number_of c.in_err-and.field-0.0 = search rules in
    r ∙ rule_early (out c.args.buf.now c.args.w) c.args.x c.args.s _ e (number_refuses _)
