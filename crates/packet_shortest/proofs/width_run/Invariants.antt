-- What the loop of `width_run` keeps: the bytes of the lengths gone through. Assumes nothing.
use Rattle.std.proofs.Common.{◌*◌, ◌≤◌, ◌≡◌, length}
use Rattle.packet_shortest.specs.Inner.{codes_of}
use Rattle.packet_shortest.proofs.width_run.Given as goal

abbrev pub invariant-loop-size : goal.invariant-loop-size
invariant-loop-size l = (l.width ≡ length (codes_of l.sizes l.size-index)) × (l.width ≤ 2 * l.size-index)
