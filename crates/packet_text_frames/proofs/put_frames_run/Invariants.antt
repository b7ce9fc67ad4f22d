-- The lines of the frames before this one are put. Assumes nothing.
use Rattle.std.proofs.Common.{◌*◌, ◌≡◌, length}
use Rattle.numerals.specs.Inner.{Put}
use Rattle.packet_text_frames.specs.FrameLines.{frame_lines}
use Rattle.packet_text_frames.proofs.put_frames_run.Given as goal

abbrev pub invariant-loop-k : goal.invariant-loop-k
invariant-loop-k l = (length l.out ≡ length l.fn.out) × Put (20 * l.k) l.fn.out l.at (frame_lines l.a l.k) l.out l.place
