-- What is still to be run from here, with the moves made, is the whole answer, and the vector does not keep its gaps. Assumes nothing.
use Rattle.std.proofs.Common.{◌≡◌, length}
use Rattle.nlsf_stabilize.proofs.RunLaws.{Turn}
use Rattle.nlsf_stabilize.proofs.stabilise_run.Given as goal

abbrev pub invariant-loop-m : goal.invariant-loop-m
invariant-loop-m l = record { long : length l.v ≡ length l.fn.v; turn : Turn l.g l.fn.v l.v l.w l.s l.m }
