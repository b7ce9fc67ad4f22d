-- Below place j the values are the old ones, from j on those of the result, and `next` stands behind. Assumes nothing.
use Rattle.std.proofs.Common.{◌≡◌, drop}
use Rattle.spectrum.proofs.Passes.{Down}
use Rattle.spectrum.specs.Fallback.{lowered}
use Rattle.nlsf_stabilize_fallback.proofs.Downward.{behind}
use Rattle.nlsf_stabilize_fallback.proofs.go_down.Given as goal

abbrev pub invariant-loop-j : goal.invariant-loop-j
invariant-loop-j l = record {
  passed : Down (lowered (drop 1 l.g) l.fn.v) l.fn.v l.v l.j;
  behind : l.next ≡ behind (lowered (drop 1 l.g) l.fn.v) l.j;
}
