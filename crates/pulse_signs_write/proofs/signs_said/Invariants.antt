-- The first n symbols are those of the first k pulses.
use Rattle.std.proofs.Common.{◌≡◌, ◌≤◌, length, take}
use Rattle.pulse_signs_write.specs.Inner.{signs_said}
use Rattle.pulse_signs_write.proofs.signs_said.Given as goal

abbrev pub invariant-loop-k : goal.invariant-loop-k
invariant-loop-k l = record {
  few : l.n ≤ l.k;
  size : length l.symbols ≡ 16;
  are : take l.n l.symbols ≡ signs_said (take l.k l.pulses);
}
