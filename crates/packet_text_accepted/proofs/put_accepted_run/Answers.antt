-- Line behind line. Assumes nothing.
use Rattle.std.proofs.Common.{arith}
use mir.Syntax.{w16}
use mir.Facts.{to_z_pos}
use Rattle.numerals.proofs.Put.{put_then}
use Rattle.listing.specs.Ascii.{ascii}
use Rattle.listing.specs.Lines.{spaced, line}
use Rattle.packet_text_accepted.specs.AcceptedText.{accepted_text}
use Rattle.packet_text_accepted.proofs.put_accepted_run.Goals as goal

pub returns : goal.returns
unfolding ascii spaced line accepted_text
returns c =
    let a = c.args.a in
    let config = rw (to_z_pos w16 {n = a.config} (omega arith)) at c.put_line_run-place.ensures in
    let arrangement = rw (to_z_pos w16 {n = a.arrangement} (omega arith)) at c.put_line_run-place-2.ensures in
    put_then (put_then (put_then config arrangement) c.put_frames_run-place.ensures) c.put_word_run.ensures
