-- How many blocks there are, their lines, and the end. Assumes nothing.
use Rattle.std.proofs.Common.{arith}
use mir.Syntax.{w16}
use mir.Facts.{to_z_pos}
use Rattle.numerals.proofs.Put.{put_then, put_as}
use Rattle.listing.specs.Ascii.{ascii}
use Rattle.listing.specs.Lines.{spaced, line}
use Rattle.frame_text.specs.FrameText.{pulses_text}
use Rattle.frame_text_pulses.proofs.put_pulses_run.Goals as goal

pub returns : goal.returns
unfolding ascii spaced line pulses_text
returns c =
    put_as (put_then (put_then c.put_line_run-place.ensures c.put_blocks-place.ensures) c.put_word_run.ensures)
    (rw (to_z_pos w16 {n = c.args.blocks} (omega arith))) (omega arith)
