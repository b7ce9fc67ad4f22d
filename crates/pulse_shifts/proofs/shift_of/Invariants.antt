-- The first shift from j on that passes is the first of all.
use Rattle.std.proofs.Common.{◌≡◌, ◌-◌}
use lib.Dec.{leb}
use Rattle.silk.specs.PulseSyntax.{total}
use Rattle.silk.specs.PulseWriting.{shifted_by, first_from}
use Rattle.silk.specs.Inner.Pulses.{least_shift}
use Rattle.pulse_shifts.proofs.shift_of.Given as goal

abbrev pub invariant-loop-j : goal.invariant-loop-j
invariant-loop-j l = first_from (λ j. leb (total (shifted_by j l.part)) 16) (11 - l.j) l.j ≡ least_shift l.part
