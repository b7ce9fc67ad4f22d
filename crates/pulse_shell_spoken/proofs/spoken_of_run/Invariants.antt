-- The parts with pulses among the first k are gathered.
use Rattle.std.proofs.Common.{◌≤◌, take}
use Rattle.pulse_shell_splits.specs.Inner.{parts_of}
use Rattle.pulse_shell_spoken.specs.Inner.{spoken, Gathered}
use Rattle.pulse_shell_spoken.proofs.spoken_of_run.Given as goal

abbrev pub invariant-loop-k : goal.invariant-loop-k
invariant-loop-k l = record {
  are : Gathered (spoken (take l.k (parts_of 4 l.x))) l.start l.all l.left l.n;
  few : l.n ≤ l.k;
}
