-- The lengths before this one are put. Assumes nothing.
use Rattle.std.proofs.Common.{◌≡◌, length}
use Rattle.packet_shortest.specs.Inner.{codes_of}
use Rattle.packet_padding.specs.Inner.{Puts}
use Rattle.packet_pieces.proofs.put_lengths_run.Given as goal

abbrev pub invariant-loop-size : goal.invariant-loop-size
invariant-loop-size l = (length l.out ≡ length l.fn.out) × Puts l.fn.out l.at (codes_of l.sizes l.size-index) l.out l.place
