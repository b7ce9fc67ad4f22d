-- `least` is the first smallest of the steps below i, `place` its place, and `x` the value at i. Assumes nothing.
use Rattle.std.proofs.Common.{◌≡◌}
use Rattle.spectrum.specs.Inner.{step}
use Rattle.spectrum.specs.Values.{at}
use Rattle.nlsf_stabilize_search.proofs.SearchLaws.{Best}
use Rattle.nlsf_stabilize_search.proofs.first_smallest.Given as goal

abbrev pub invariant-loop-i : goal.invariant-loop-i
invariant-loop-i l = record { value : l.x ≡ at l.w l.i; best : Best (step l.w) l.i l.least l.place }
