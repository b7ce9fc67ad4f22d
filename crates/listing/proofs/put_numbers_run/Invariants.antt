-- The numbers before this one are put. Assumes nothing.
use Rattle.std.proofs.Common.{◌*◌, ◌≡◌, length, take}
use Rattle.numerals.specs.Inner.{Put}
use Rattle.listing.specs.Lines.{spaced}
use Rattle.listing.proofs.put_numbers_run.Given as goal

abbrev pub invariant-loop-x : goal.invariant-loop-x
invariant-loop-x l = (length l.out ≡ length l.fn.out) × Put (7 * l.x-index) l.fn.out l.at (spaced (take l.x-index l.xs)) l.out l.place
