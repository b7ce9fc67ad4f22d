-- The places before this one are the first shifted magnitudes.
use Rattle.std.proofs.Common.{◌≡◌, length, take}
use Rattle.silk.specs.PulseWriting.{shifted_by}
use Rattle.pulse_shifts.proofs.shrink_run.Given as goal

abbrev pub invariant-loop-k : goal.invariant-loop-k
invariant-loop-k l = record {
  size : length l.places ≡ 16;
  is : take l.k l.places ≡ take l.k (shifted_by l.j l.part);
}
