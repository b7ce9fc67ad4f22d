-- The line of the word and two numbers. Assumes nothing.
use Rattle.std.proofs.Common.{arith}
use mir.Syntax.{w16}
use mir.Facts.{to_z_pos}
use Rattle.numerals.proofs.Put.{put_as}
use Rattle.listing.specs.Ascii.{ascii}
use Rattle.packet_text_frames.proofs.put_frame.Goals as goal

pub returns : goal.returns
unfolding ascii
returns c =
    let a = c.args in
    put_as c.put_line_run.ensures (rw (to_z_pos w16 {n = a.start} (omega arith), to_z_pos w16 {n = a.size} (omega arith))) (omega arith)
