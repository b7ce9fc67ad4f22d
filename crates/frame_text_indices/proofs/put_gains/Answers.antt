-- As many gains as there are subframes. Assumes nothing.
use Rattle.std.proofs.Common.{refl, arith}
use lib.ListN.{length-take}
use Rattle.numerals.proofs.Put.{put_as}
use Rattle.listing.specs.Ascii.{ascii}
use Rattle.frame_text.specs.FrameText.{gains_text}
use Rattle.frame_text_indices.proofs.put_gains.Goals as goal

pub returns : goal.returns
unfolding ascii gains_text
returns c = put_as (rw c.widened-gains.ensures at c.put_counted_run.ensures) refl (simp length-take (omega arith))
