-- If the test holds so far, the places from k on are 0.
use Rattle.std.proofs.Common.{◌≡◌, ◌-◌, true, length, drop, pos}
use Rattle.std.proofs.Math.ListN.{replicate}
use Rattle.pulse_signs_read.proofs.no_pulse.Given as goal

abbrev pub invariant-loop-k : goal.invariant-loop-k
invariant-loop-k l = l.none ≡ true → drop l.k l.places ≡ replicate (length l.places - l.k) (pos 0)
