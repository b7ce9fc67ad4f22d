-- Two lines, of numbers that fit. Assumes nothing.
use Rattle.std.proofs.Common.{◌≡◌, arith, rules}
use mir.Syntax.{w16}
use mir.Val.{to_z, of_z}
use mir.Facts.{to_z_pos}
use Rattle.numerals.proofs.Put.{put_then}
use Rattle.listing.specs.Ascii.{ascii}
use Rattle.frame_text.specs.FrameText.{kind_text}
use Rattle.frame_text.proofs.EightBits.{widened}
use Rattle.frame_text_kind.proofs.put_kind_run.Goals as goal

pub returns : goal.returns
unfolding ascii kind_text
returns c =
    let a = c.args in
    let signal : to_z w16 (of_z w16 c.from.result) ≡ a.x.signal = widened c.from.type_inv c.from.ensures (search rules) in
    let offset : to_z w16 (of_z w16 c.from-2.result) ≡ a.x.offset = widened c.from-2.type_inv c.from-2.ensures (search rules) in
    let first = rw (to_z_pos w16 {n = a.khz} (omega arith), to_z_pos w16 {n = a.subframes} (omega arith)) at c.put_line_run-place.ensures in
    put_then first (rw (signal, offset) at c.put_line_run.ensures)
