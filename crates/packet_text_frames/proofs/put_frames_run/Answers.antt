-- One line more. Assumes nothing.
use Rattle.std.proofs.Common.{add-one, arith, rules}
use Rattle.numerals.proofs.Put.{put_none, put_then, put_as}
use Rattle.packet_text_frames.specs.FrameLines.{frame_lines}
use Rattle.packet_text_frames.proofs.put_frames_run.Goals as goal

pub loop-k-init : goal.loop-k-init
unfolding frame_lines
loop-k-init c = (search rules, put_none _ _)

pub put_frame-place-requires : goal.put_frame-place-requires
put_frame-place-requires c =
    let p = c.loop-k.invariant.1 in
    let h = c.requires.1.inside c.loop-k.k (omega arith) in
    (omega (arith, p.behind, p.most), omega arith, omega arith)

pub loop-k-preserved : goal.loop-k-preserved
unfolding frame_lines
loop-k-preserved c = (search rules, put_as (put_then c.loop-k.invariant.1 c.put_frame-place.ensures) (rw add-one) (omega arith))
