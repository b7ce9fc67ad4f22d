-- `packet_read` meets its contract: the first rule that refuses, or the answer. Assumes nothing.
use Rattle.std.proofs.Common.{◌≡◌, ℕ, ◌/◌, ◌%◌, false, sym, ap, ◌∙◌, arith}
use Rattle.framing.specs.Reading.{speech}
use Rattle.framing.proofs.Accepted.{reads, answer_is, rule_one, rule_ten, rule_eleven, refused_is, not_speech, stereo_not}
use Rattle.packet_read.proofs.CallLaws.{told, broke, mono, placed, twelve_count}
use Rattle.packet_read.proofs.packet_read.Goals as goal
use Rattle.packet_read.proofs.packet_read.Goals.{then-toc-gt11-via-then-toc-gt11, then-toc-gt11-via-else-toc-gt11+then-toc-eq1}

pub returns-then-packet-gt-LONGEST_PACKET : goal.returns-then-packet-gt-LONGEST_PACKET
returns-then-packet-gt-LONGEST_PACKET c =
    let s = c.args.packet.now in
    c.refused.ensures ∙ sym (refused_is s 1 (rule_one s c.if-packet-gt-LONGEST_PACKET.true) (omega arith))

pub returns-in_default : goal.returns-in_default
returns-in_default c =
    let s = c.args.packet.now in
    c.refused-in_default.ensures
    ∙ sym (refused_is s 10 (rule_ten s c.if-packet-gt-LONGEST_PACKET.false (broke s c.in_default.ensures)) (omega arith))

pub returns-then-toc-gt11 : goal.returns-then-toc-gt11
returns-then-toc-gt11 c =
    let s = c.args.packet.now in
    let t = told s c.in-Some.span c.in-Some.ensures in
    let b = c.byte_at-toc.ensures.0 in
    let n : speech s ≡ false = elim c.then-toc-gt11.branch [
      | then-toc-gt11-via-then-toc-gt11 w ↦ not_speech s (omega (arith, w.if-toc-gt11.true, b))
      | then-toc-gt11-via-else-toc-gt11+then-toc-eq1 w ↦
          stereo_not s (ap (λ (n : ℕ). n / 4 % 2) (sym b) ∙ w.if-toc-eq1.true)
    ] in
    c.refused-then-toc-gt11.ensures
    ∙ sym (refused_is s 11 (rule_eleven s c.if-packet-gt-LONGEST_PACKET.false t.rules n) (omega arith))

pub accepted_run-requires : goal.accepted_run-requires
accepted_run-requires c =
    let s = c.args.packet.now in
    let f = c.form_run-form.ensures in
    let t = told s c.in-Some.span c.in-Some.ensures in
    let b = c.byte_at-toc.ensures in (
      placed s _ c.in-Some.span c.if-packet-gt-LONGEST_PACKET.false f.value f.bounded t,
      twelve_count s _ f.value t.rules (omega (arith, c.if-toc-gt11.false, b.0)),
      b.0,
      b.1,
    )

pub returns : goal.returns
returns c =
    let s = c.args.packet.now in
    let t = told s c.in-Some.span c.in-Some.ensures in
    let b = c.byte_at-toc.ensures.0 in
    c.accepted_run.ensures
    ∙ sym (answer_is s (reads s (record {
      short = c.if-packet-gt-LONGEST_PACKET.false;
      rules = t.rules;
      config = omega (arith, c.if-toc-gt11.false, b);
      mono = mono s _ b c.if-toc-eq1.false;
    })))
