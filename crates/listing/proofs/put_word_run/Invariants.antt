-- The bytes before this one are put. Assumes nothing.
use Rattle.std.proofs.Common.{◌≡◌, length, take}
use Rattle.numerals.specs.Inner.{Put}
use Rattle.listing.proofs.put_word_run.Given as goal

abbrev pub invariant-loop-byte : goal.invariant-loop-byte
invariant-loop-byte l = (length l.out ≡ length l.fn.out) × Put l.byte-index l.fn.out l.at (take l.byte-index l.word) l.out l.place
