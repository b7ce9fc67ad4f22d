-- The test and the sum of the gaps passed, and that the sum lies within 32,768 for each. Assumes nothing.
use Rattle.std.proofs.Common.{◌≡◌, take, pos}
use Rattle.std.specs.Int.Signed.{le_z}
use Rattle.lists.specs.Every.{every}
use Rattle.spectrum.specs.Values.{total}
use Rattle.spectrum.proofs.SumLaws.{Near}
use Rattle.nlsf_stabilize.proofs.gaps.ruled_sum_run.Given as goal

abbrev pub invariant-loop-gap : goal.invariant-loop-gap
invariant-loop-gap l = record {
  none : l.none ≡ every (le_z (pos 0)) (take l.gap-index l.g);
  near : Near l.gap-index l.sum;
  all : l.sum ≡ total (take l.gap-index l.g);
}
