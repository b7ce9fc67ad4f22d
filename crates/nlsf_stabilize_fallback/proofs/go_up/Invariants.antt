-- Below place i the values are those of the result, from i on the old ones; `prev` stands before i. Assumes nothing.
use Rattle.std.proofs.Common.{◌≡◌, ◌∷◌, pos}
use Rattle.spectrum.proofs.Passes.{Up}
use Rattle.spectrum.specs.Fallback.{raised}
use Rattle.spectrum.specs.Values.{at}
use Rattle.nlsf_stabilize_fallback.proofs.go_up.Given as goal

abbrev pub invariant-loop-i : goal.invariant-loop-i
invariant-loop-i l = record {
  passed : Up (raised l.g l.fn.v) l.fn.v l.v l.i;
  before : l.prev ≡ at (pos 0 ∷ raised l.g l.fn.v) l.i;
}
