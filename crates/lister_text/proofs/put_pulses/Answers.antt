-- As many blocks as the frame has. Assumes nothing.
use Rattle.std.proofs.Common.{ap, ap₂, arith}
use Rattle.numerals.proofs.Put.{put_as}
use Rattle.silk.specs.FrameCalls.{Pulsed, decode_pulses}
use Rattle.silk.proofs.PulseCallLaws.{blocks_most}
use Rattle.frame_text.specs.FrameText.{pulses_text}
use Rattle.lister_text.proofs.put_pulses.Goals as goal

pub put_pulses_run-requires : goal.put_pulses_run-requires
put_pulses_run-requires c =
    let f = c.args.f in
    let e = c.blocks_of_run-blocks.ensures in
    let few = blocks_most f.khz f.subframes c.requires.at_in_bounds.1 c.requires.at_in_bounds.2 in
    (omega (arith, e, few), omega (arith, e, few), omega (arith, e, c.silk_decode_pulses.auto.pulses, c.requires.pulses_len))

pub returns : goal.returns
returns c =
    let a = c.args in
    let f = a.f in
    let q = decode_pulses a.packet.now a.d a.pulses.now f.khz f.subframes f.signal f.offset in
    let e = ap (λ (p : Pulsed). p.pulses) {y = q} c.silk_decode_pulses.ensures in
    let few = blocks_most f.khz f.subframes c.requires.at_in_bounds.1 c.requires.at_in_bounds.2 in
    put_as c.put_pulses_run.ensures (ap₂ pulses_text {v = q.pulses} c.blocks_of_run-blocks.ensures e)
    (omega (arith, c.blocks_of_run-blocks.ensures, few))
