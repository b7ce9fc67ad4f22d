-- The sum is that of the places before this one.
use Rattle.std.proofs.Common.{◌≡◌, ◌*◌, ◌≤◌, take}
use Rattle.silk.specs.PulseSyntax.{total}
use Rattle.silk.specs.PulseWriting.{shifted_by}
use Rattle.pulse_shifts.proofs.total_at.Given as goal

abbrev pub invariant-loop-k : goal.invariant-loop-k
invariant-loop-k l = record {
  is : l.sum ≡ total (take l.k (shifted_by l.j l.part));
  most : l.sum ≤ 32768 * l.k;
}
