-- The first refusal, a block without a shift, or the excitation. Assumes nothing.
use Rattle.std.proofs.Common.{◌≡◌, ◌≤◌, ◌∙◌, refl, sym, ap, arith, rules, length, true, false}
use Rattle.refusals.specs.Inner.{number_of, refusal_of}
use Rattle.refusals.proofs.RefusalLaws.{number_refuses, and_refuses}
use Rattle.entcode.specs.Flat.{out}
use Rattle.silk.proofs.PulseRowLaws.{pulse_rows_lem}
use Rattle.silk.proofs.PulseCallLaws.{blocks_most}
use Rattle.silk.proofs.PulseSent.{entered, pulses_early, pulses_unfit, pulses_sent}
use Rattle.encode_pulses.proofs.Plan.{plan_suits, plan_says, plan_fits}
use Rattle.encode_pulses.proofs.silk_encode_pulses.Goals as goal

pub blocks_of_run-blocks-requires : goal.blocks_of_run-blocks-requires
blocks_of_run-blocks-requires c =
    let a = c.args in
    let f = a.f in
    let o = out a.buf.now a.w in
    let e = sym (ap refusal_of c.in-Ok.is)
    ∙ and_refuses c.gate.result c.write_rule-rule.result c.and.ensures c.gate.ensures c.write_rule-rule.ensures in
    let k = entered o a.pulses.now f.khz f.subframes f.signal f.offset a.rate 0 e refl in
    let m = k.own.frame.numbers in
    (m.khz16, m.subframes4)

pub plan_run-requires : goal.plan_run-requires
plan_run-requires c =
    let a = c.args in
    let f = a.f in
    let o = out a.buf.now a.w in
    let e = sym (ap refusal_of c.in-Ok.is)
    ∙ and_refuses c.gate.result c.write_rule-rule.result c.and.ensures c.gate.ensures c.write_rule-rule.ensures in
    let k = entered o a.pulses.now f.khz f.subframes f.signal f.offset a.rate 0 e refl in
    let m = k.own.frame.numbers in
    let few : c.blocks_of_run-blocks.result ≤ 20 =
    omega (arith, c.blocks_of_run-blocks.ensures, blocks_most f.khz f.subframes m.khz16 m.subframes4) in
    (few, omega (arith, c.blocks_of_run-blocks.ensures, k.own.frame.length16))

pub silk_encode_pulses_run-state-requires : goal.silk_encode_pulses_run-state-requires
silk_encode_pulses_run-state-requires c =
    let a = c.args in
    let f = a.f in
    let o = out a.buf.now a.w in
    let e = sym (ap refusal_of c.in-Ok.is)
    ∙ and_refuses c.gate.result c.write_rule-rule.result c.and.ensures c.gate.ensures c.write_rule-rule.ensures in
    let k = entered o a.pulses.now f.khz f.subframes f.signal f.offset a.rate 0 e refl in
    let m = k.own.frame.numbers in
    let few : c.blocks_of_run-blocks.result ≤ 20 =
    omega (arith, c.blocks_of_run-blocks.ensures, blocks_most f.khz f.subframes m.khz16 m.subframes4) in
    let x = c.in-Some.x in
    let sized : length c.in-Some.x.lows ≡ 20 = search rules in
    record {
      core = k.gate.core;
      total_bound = omega (arith, k.gate.low);
      pulse_rows = pulse_rows_lem _ c.pulse_rows-rows.ensures;
      blocks_bound =
          (few, omega (arith, c.blocks_of_run-blocks.ensures, k.own.frame.length16), m.signal2, m.offset1, k.own.rate8);
      suited = plan_suits _ a.pulses.now x.counts x.lows true c.in-Some.ensures refl (omega (arith, sized, few));
    }

pub returns-in-Some : goal.returns-in-Some
returns-in-Some c =
    let a = c.args in
    let f = a.f in
    let o = out a.buf.now a.w in
    let e = sym (ap refusal_of c.in-Ok.is)
    ∙ and_refuses c.gate.result c.write_rule-rule.result c.and.ensures c.gate.ensures c.write_rule-rule.ensures in
    let k = entered o a.pulses.now f.khz f.subframes f.signal f.offset a.rate 0 e refl in
    let m = k.own.frame.numbers in
    let few : c.blocks_of_run-blocks.result ≤ 20 =
    omega (arith, c.blocks_of_run-blocks.ensures, blocks_most f.khz f.subframes m.khz16 m.subframes4) in
    let x = c.in-Some.x in
    let sized : length c.in-Some.x.lows ≡ 20 = search rules in
    let r = c.silk_encode_pulses_run-state in
    let n = c.blocks_of_run-blocks.ensures in
    rw c.of.ensures
    (pulses_sent o a.pulses.now f.khz f.subframes f.signal f.offset a.rate 0 e refl _
    (plan_fits _ _ a.pulses.now x.counts x.lows true true c.in-Some.ensures n refl)
    (plan_says _ a.pulses.now x.counts x.lows true c.in-Some.ensures refl (omega (arith, sized, few)) _ _
    f.signal f.offset a.rate _ 64656 n r.ensures))

pub returns-in-None : goal.returns-in-None
returns-in-None c =
    let a = c.args in
    let f = a.f in
    let o = out a.buf.now a.w in
    let e = sym (ap refusal_of c.in-Ok.is)
    ∙ and_refuses c.gate.result c.write_rule-rule.result c.and.ensures c.gate.ensures c.write_rule-rule.ensures in
    rw c.refused.ensures
    (pulses_unfit o a.pulses.now f.khz f.subframes f.signal f.offset a.rate 0 e refl
    (plan_fits _ _ a.pulses.now _ _ false false c.in-None.ensures c.blocks_of_run-blocks.ensures refl))

pub returns-in-Err : goal.returns-in-Err
returns-in-Err c =
    let a = c.args in
    let f = a.f in
    let o = out a.buf.now a.w in
    let e = sym (ap refusal_of c.in-Err.is)
    ∙ and_refuses c.gate.result c.write_rule-rule.result c.and.ensures c.gate.ensures c.write_rule-rule.ensures in
    let n = c.in-Err.refusal in
    rw c.refused-in-Err.ensures
    (pulses_early o a.pulses.now f.khz f.subframes f.signal f.offset a.rate (number_of n) e (number_refuses n))
