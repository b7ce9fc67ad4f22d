-- `room_run` meets its contract: refusal 8, or that of the frames. Assumes nothing.
use Rattle.std.proofs.Common.{◌≡◌, None, sym, ◌∙◌, arith}
use Rattle.std.proofs.lemmas.Bool.Decides.{nat_tests}
use Rattle.std.proofs.lemmas.Result.{err_from_is_err_and}
use Rattle.refusals.specs.declared.Refusal.TheVariants.{Value}
use Rattle.framing.proofs.WriteRules.{by_frames}
use Rattle.packet_plan.proofs.PlanLaws.{stopped, total_bare, too_long, no_room, known}
use Rattle.packet_plan.proofs.room_run.Goals as goal

pub returns-then-n-gt-LONGEST_PACKET : goal.returns-then-n-gt-LONGEST_PACKET
returns-then-n-gt-LONGEST_PACKET c =
    too_long _ _ _ _ _ c.requires.0 c.requires.1
    (omega (arith, c.requires.1, c.if-n-gt-LONGEST_PACKET.true, total_bare c.args.sizes.now))

pub returns-in_err-width : goal.returns-in_err-width
returns-in_err-width c =
    let n : c.widths_run.result ≡ None = grind arith in
    let w = rw n at c.widths_run.ensures.told in
    let p = err_from_is_err_and c.from_residual.result c.from_residual.ensures.1 in
    let e : c.in_err-width.field-0.0 ≡ Value = grind arith in
    rw (p.1, p.2, e) (too_long _ _ _ _ _ c.requires.0 c.requires.1 (w.more (omega arith)))

pub returns-then-m-shortest : goal.returns-then-m-shortest
returns-then-m-shortest c =
    let a = c.args in
    let k =
    known a.sizes.now a.length c.in_ok-width.width a.n c.code_run-code.result c.own_run-shortest.result c.if-length-eq0.m
    c.requires.1 (grind arith) c.widths_run.ensures.told c.widths_run.ensures.some c.code_run-code.ensures
    c.own_run-shortest.ensures (grind (arith, nat_tests)) in
    no_room _ _ _ _ _ c.requires.0 c.requires.1 (λ i j. omega (arith, c.then-m-shortest.either, k.least, k.wanted))

pub returns-in_err-frames_rule : goal.returns-in_err-frames_rule
returns-in_err-frames_rule c =
    let a = c.args in
    let k =
    known a.sizes.now a.length c.in_ok-width.width a.n c.code_run-code.result c.own_run-shortest.result c.if-length-eq0.m
    c.requires.1 (grind arith) c.widths_run.ensures.told c.widths_run.ensures.some c.code_run-code.ensures
    c.own_run-shortest.ensures (grind (arith, nat_tests)) in
    let fits = by_frames a.len a.config a.n a.sizes.now a.length c.requires.0 c.requires.1
    (omega (arith, c.if-m-shortest.false, k.least, k.wanted)) (omega (arith, c.if-len-m.false, k.wanted)) in
    let p = err_from_is_err_and c.from_residual-in_err-frames_rule.result c.from_residual-in_err-frames_rule.ensures.1 in
    rw (p.1, p.2)
    (stopped _ _ _ _ _ c.in_err-frames_rule.field-0.0
    (sym (c.in_err-frames_rule.ensures ∙ fits)))

pub returns : goal.returns
returns c =
    let a = c.args in
    let k =
    known a.sizes.now a.length c.in_ok-width.width a.n c.code_run-code.result c.own_run-shortest.result c.if-length-eq0.m
    c.requires.1 (grind arith) c.widths_run.ensures.told c.widths_run.ensures.some c.code_run-code.ensures
    c.own_run-shortest.ensures (grind (arith, nat_tests)) in
    let fits = by_frames a.len a.config a.n a.sizes.now a.length c.requires.0 c.requires.1
    (omega (arith, c.if-m-shortest.false, k.least, k.wanted)) (omega (arith, c.if-len-m.false, k.wanted)) in
    record {
      rule = c.in_ok-frames_rule.ensures ∙ fits;
      runs = record {
        length = k.wanted;
        same = c.alike_run-same.ensures;
        code = c.code_run-code.ensures;
        bare = k.plain;
      };
    }
