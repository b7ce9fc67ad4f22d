-- What h halves leave.
use Rattle.pulse_shell_halves.proofs.Halves.{Halving}
use Rattle.pulse_shell_halves.proofs.shell_8_run.Given as goal

abbrev pub invariant-loop-h : goal.invariant-loop-h
invariant-loop-h l = Halving 2 4 48 l.left l.p l.initial.r l.fn.places l.r l.places l.h
