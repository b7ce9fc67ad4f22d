-- The lines of the blocks before this one are put. Assumes nothing.
use Rattle.std.proofs.Common.{◌*◌, ◌≡◌, length}
use Rattle.numerals.specs.Inner.{Put}
use Rattle.frame_text.specs.FrameText.{block_lines}
use Rattle.frame_text_pulses.proofs.put_blocks.Given as goal

abbrev pub invariant-loop-i : goal.invariant-loop-i
invariant-loop-i l = (length l.out ≡ length l.fn.out) × Put (112 * l.i) l.fn.out l.at (block_lines l.i l.pulses) l.out l.place
