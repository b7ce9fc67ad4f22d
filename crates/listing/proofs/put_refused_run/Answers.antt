-- The line of the word and the number. Assumes nothing.
use Rattle.std.proofs.Common.{arith}
use mir.Syntax.{w16}
use mir.Facts.{to_z_pos}
use Rattle.numerals.proofs.Put.{put_as}
use Rattle.listing.specs.Ascii.{ascii}
use Rattle.listing.specs.Lines.{refused_text}
use Rattle.listing.proofs.put_refused_run.Goals as goal

pub returns : goal.returns
unfolding ascii refused_text
returns c = put_as c.put_line_run.ensures (rw (to_z_pos w16 {n = c.args.number} (omega arith))) (omega arith)
