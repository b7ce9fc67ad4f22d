-- Each of the first i blocks has a shift.
use Rattle.std.proofs.Common.{◌≡◌, length, true}
use Rattle.silk.specs.PulseSyntax.{rows16}
use Rattle.silk.specs.Inner.Pulses.{Planned}
use Rattle.pulse_shifts.proofs.plan_run.Given as goal

abbrev pub invariant-loop-i : goal.invariant-loop-i
invariant-loop-i l = record {
  size : length l.counts ≡ 20;
  size_lows : length l.lows ≡ 20;
  planned : Planned (rows16 l.i l.pulses) l.counts l.lows true;
}
