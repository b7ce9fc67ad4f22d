-- Line behind line. Assumes nothing.
use Rattle.std.proofs.Common.{rules}
use mir.Syntax.{w8}
use mir.Val.{SFits}
use Rattle.numerals.proofs.Put.{put_then}
use Rattle.listing.specs.Ascii.{ascii}
use Rattle.frame_text.specs.FrameText.{indices_text}
use Rattle.frame_text.proofs.EightBits.{widened}
use Rattle.frame_text_indices.proofs.put_indices_run.Goals as goal

pub returns : goal.returns
unfolding ascii indices_text
returns c =
    let x = c.args.x in
    let interp : SFits w8 x.interp = search rules in
    let seed : SFits w8 x.seed = search rules in
    let front = put_then (put_then c.put_kind_run-place.ensures c.put_gains-place.ensures) c.put_spectrum-place.ensures in
    let line = rw (widened c.from.type_inv c.from.ensures interp) at c.put_line_run-place.ensures in
    let last = rw (widened c.from-2.type_inv c.from-2.ensures seed) at c.put_line_run.ensures in
    put_then (put_then (put_then front line) c.put_pitch_run-place.ensures) last
