-- The first refusal, or what the record says along the frame's syntax. Assumes nothing.
use Rattle.std.proofs.Common.{◌≡◌, ◌∙◌, refl, sym, ap, arith, rules}
use mir.Syntax.{w16}
use mir.Val.{SFits}
use mir.Facts.{to_z-of_z}
use Rattle.refusals.specs.Inner.{number_of, refusal_of}
use Rattle.refusals.proofs.RefusalLaws.{number_refuses}
use Rattle.entcode.specs.Flat.{Out, out}
use Rattle.silk.specs.declared.IndicesWritten.{IndicesWritten}
use Rattle.silk.proofs.IndexRows.{index_rows_lem}
use Rattle.silk.specs.Record.{Shape}
use Rattle.silk.specs.IndexWriting.{tell_rule, IndicesSent, indices_told}
use Rattle.silk.proofs.IndexWritingLaws.{indices_told_lem, indices_untold_lem}
use Rattle.encode_indices.proofs.Calls.{rule_takes}
use Rattle.encode_indices.proofs.silk_encode_indices.Goals as goal

pub all_tell-q-requires : goal.all_tell-q-requires
all_tell-q-requires c =
    let h : Shape c.args.«record» = record {
      gains = search (rules, c.well_formed.1.1.0);
      ltp = search (rules, c.well_formed.1.1.0);
      nlsf = search (rules, c.well_formed.1.1.0);
    } in
    let t = rule_takes (out c.args.buf.now c.args.w) c.args.«record» c.args.s h (sym c.tell_rule.ensures ∙ ap refusal_of c.in-Ok.is) in
    let r = c.index_rows-rows in
    record {
      writing = record { core = t.passed.core; few = omega (arith, t.passed.low); rows = index_rows_lem r.result r.ensures };
      rate = (t.numbers.rate, t.numbers.subframes, t.numbers.active, t.fields);
    }

pub accepted-requires : goal.accepted-requires
accepted-requires c =
    let h : Shape c.args.«record» = record {
      gains = search (rules, c.well_formed.1.1.0);
      ltp = search (rules, c.well_formed.1.1.0);
      nlsf = search (rules, c.well_formed.1.1.0);
    } in
    let t = rule_takes (out c.args.buf.now c.args.w) c.args.«record» c.args.s h (sym c.tell_rule.ensures ∙ ap refusal_of c.in-Ok.is) in
    t.fields.kind.signal

pub returns-in-Ok : goal.returns-in-Ok
returns-in-Ok c =
    let x = c.args.«record» in
    let t = c.all_tell-q in
    let q = out t.new.buf t.result in
    let f : SFits w16 c.args.s.prevlag = search rules in
    let a : c.accepted.result ≡ (indices_told c.args.s x q).answer = rw (to_z-of_z f) at c.accepted.ensures in
    let s : IndicesWritten → IndicesSent = λ w. record { buf = t.new.buf; answer = w } in
    ap s a
    ∙ ap (indices_told c.args.s x) t.ensures.is
    ∙ indices_told_lem (out c.args.buf.now c.args.w) x c.args.s (sym c.tell_rule.ensures ∙ ap refusal_of c.in-Ok.is)

pub returns-in-Err : goal.returns-in-Err
returns-in-Err c =
    let n = c.in-Err.refusal in
    let f : SFits w16 c.args.s.prevlag = search rules in
    rw (c.from.ensures, to_z-of_z f)
    (indices_untold_lem (out c.args.buf.now c.args.w) c.args.«record» c.args.s (number_of n)
    (sym (ap refusal_of c.in-Err.is) ∙ c.tell_rule.ensures) (number_refuses n))
