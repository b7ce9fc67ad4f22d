-- Up to place i slacks and sums stand, and the local holds the sum of the gaps passed. Assumes nothing.
use Rattle.std.proofs.Common.{◌≡◌, take}
use Rattle.spectrum.specs.Values.{total}
use Rattle.nlsf_stabilize_slack.proofs.SlackLaws.{Filled}
use Rattle.nlsf_stabilize_slack.proofs.slacks_run.Given as goal

abbrev pub invariant-loop-i : goal.invariant-loop-i
invariant-loop-i l = record {
  filled : Filled l.g l.v l.w l.s l.i;
  all : l.sum ≡ total (take l.i l.g);
}
