-- The first index and one for each place. Assumes nothing.
use Rattle.std.proofs.Common.{ℕ, ap, arith, take}
use lib.ListN.{length-take}
use Rattle.numerals.proofs.Put.{put_as}
use Rattle.listing.specs.Ascii.{ascii}
use Rattle.listing.specs.Lines.{counted}
use Rattle.frame_text.specs.FrameText.{spectrum_text}
use Rattle.frame_text_indices.proofs.put_spectrum.Goals as goal

pub returns : goal.returns
unfolding ascii spectrum_text
returns c =
    let n = c.indices_of.ensures in
    put_as (rw c.widened-nlsf.ensures at c.put_counted_run.ensures)
    (ap (λ (k : ℕ). counted (ascii "nlsf") (take k c.args.x.nlsf)) n.0) (simp length-take (omega (arith, n.1)))
