-- The first refusal, or the excitation. Assumes nothing.
use Rattle.std.proofs.Common.{ℕ, ◌≡◌, ◌∙◌, refl, sym, ap, subst, arith, rules, length}
use Rattle.refusals.specs.Inner.{number_of, refusal_of}
use Rattle.refusals.proofs.FirstLaws.{first_none}
use Rattle.refusals.proofs.RefusalLaws.{number_refuses, and_refuses}
use Rattle.entcode.specs.Sound.{gate_r}
use Rattle.entcode.proofs.ReadingLaws.{gate_open}
use Rattle.silk.specs.FrameCalls.{pulse_rule, pulsed}
use Rattle.silk.proofs.PulseRowLaws.{pulse_rows_lem}
use Rattle.silk.proofs.PulseCallLaws.{pulse_open, blocks_most, pulses_read, pulses_refused}
use Rattle.decode_pulses_run.specs.Inner.{Excited}
use Rattle.decode_pulses.proofs.silk_decode_pulses.Goals as goal

pub blocks_of_run-blocks-requires : goal.blocks_of_run-blocks-requires
blocks_of_run-blocks-requires c =
    let a = c.args in
    let z = sym (ap refusal_of c.in-Ok.is)
    ∙ and_refuses c.gate.result c.pulse_rule-rule.result c.and.ensures c.gate.ensures c.pulse_rule-rule.ensures in
    let f = first_none _ _ (sym z) in
    let o = (pulse_open (length a.pulses.now) a.khz a.subframes a.signal a.offset f.1).numbers in
    (o.khz16, o.subframes4)

pub invariant_of-r : goal.invariant_of-r
invariant_of-r c =
    let a = c.args in
    let z = sym (ap refusal_of c.in-Ok.is)
    ∙ and_refuses c.gate.result c.pulse_rule-rule.result c.and.ensures c.gate.ensures c.pulse_rule-rule.ensures in
    let f = first_none _ _ (sym z) in
    record { core = (gate_open a.packet.now a.d f.0).sound.core }

pub silk_decode_pulses_run-requires : goal.silk_decode_pulses_run-requires
silk_decode_pulses_run-requires c =
    let a = c.args in
    let z = sym (ap refusal_of c.in-Ok.is)
    ∙ and_refuses c.gate.result c.pulse_rule-rule.result c.and.ensures c.gate.ensures c.pulse_rule-rule.ensures in
    let f = first_none _ _ (sym z) in
    let g = gate_open a.packet.now a.d f.0 in
    let k = pulse_open (length a.pulses.now) a.khz a.subframes a.signal a.offset f.1 in
    let o = k.numbers in
    let e = c.blocks_of_run-blocks.ensures in
    record {
      total_bound = omega (arith, g.low);
      pulse_rows = pulse_rows_lem _ c.pulse_rows-rows.ensures;
      n_bound = (omega (arith, e, blocks_most a.khz a.subframes o.khz16 o.subframes4), omega (arith, e, k.length16), o.signal2, o.offset1);
    }

pub returns-in-Ok : goal.returns-in-Ok
returns-in-Ok c =
    let a = c.args in
    let z = sym (ap refusal_of c.in-Ok.is)
    ∙ and_refuses c.gate.result c.pulse_rule-rule.result c.and.ensures c.gate.ensures c.pulse_rule-rule.ensures in
    let x = rw c.blocks_of_run-blocks.ensures at c.silk_decode_pulses_run.ensures.excited in
    rw c.of.ensures
    (pulses_read a.packet.now a.d a.pulses.now a.khz a.subframes a.signal a.offset 0 z refl _ _ x.value x.ran.is x.is)

pub returns-in-Err : goal.returns-in-Err
returns-in-Err c =
    let a = c.args in
    let n = c.in-Err.refusal in
    let e = sym (ap refusal_of c.in-Err.is)
    ∙ and_refuses c.gate.result c.pulse_rule-rule.result c.and.ensures c.gate.ensures c.pulse_rule-rule.ensures in
    rw c.refused.ensures
    (pulses_refused a.packet.now a.d a.pulses.now a.khz a.subframes a.signal a.offset (number_of n) e (number_refuses n))
