-- The count is a number of the line's start. Assumes nothing.
use Rattle.std.proofs.Common.{length, refl, arith}
use mir.Syntax.{w16}
use mir.Facts.{to_z_pos}
use Rattle.numerals.proofs.Put.{put_as}
use Rattle.listing.proofs.LineLaws.{put_counted}
use Rattle.listing.proofs.put_counted_run.Goals as goal

pub returns : goal.returns
returns c =
    let xs = c.args.xs.now in
    let e = rw (to_z_pos w16 {n = length xs} (omega arith)) at c.put_start_run-place.ensures in
    put_as (put_counted c.args.word.now xs e c.put_numbers_run-place.ensures c.put_byte_run.ensures) refl (omega arith)
