-- What the loop of `adds_up` keeps: what is left, and the sizes gone through, are n. Assumes nothing.
use Rattle.std.proofs.Common.{◌+◌, ◌≡◌, take}
use Rattle.framing.specs.Lengths.{total}
use Rattle.packet_sizes.proofs.adds_up.Given as goal

abbrev pub invariant-loop-size : goal.invariant-loop-size
invariant-loop-size l = l.left + total (take l.size-index l.sizes) ≡ l.n
