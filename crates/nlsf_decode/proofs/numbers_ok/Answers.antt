-- The tests are the definition's. Assumes nothing.
use Rattle.std.proofs.Common.{rules}
use mir.Syntax.{w8}
use mir.Val.{SFits}
use mir.Facts.{to_z-of_z}
use Rattle.spectrum.specs.Calls.{numbers_ok}
use Rattle.spectrum.specs.Values.{at}
use Rattle.nlsf_decode.proofs.numbers_ok.Goals as goal

pub returns : goal.returns
unfolding numbers_ok
returns c =
    let f : SFits w8 (at c.args.index 0) = search rules in
    rw (to_z-of_z f, c.places_ok-small.ensures)
