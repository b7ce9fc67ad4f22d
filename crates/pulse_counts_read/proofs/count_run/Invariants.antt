-- The rest of the tree, run from here, gives what the whole gives from the first symbol on.
use Rattle.std.proofs.Common.{◌≡◌, ◌-◌, ◌*◌, ◌≤◌, ◌<◌}
use Rattle.silk.specs.PulseSyntax.{low_counts}
use Rattle.symbol_reader.specs.Inner.{Midway}
use Rattle.pulse_counts_read.proofs.count_run.Given as goal

abbrev pub invariant-loop-v : goal.invariant-loop-v
invariant-loop-v l = record {
  midway : Midway l.initial.r (low_counts 10 0 l.initial.v) (16 * l.j) l.r (low_counts (10 - l.j) l.j l.v);
  to : l.j ≤ 10;
  most17 : l.v ≤ 17;
  tenth : l.j ≡ 10 → l.v < 17;
}

abbrev pub decreases-loop-v : goal.decreases-loop-v
decreases-loop-v l = 10 - l.j
