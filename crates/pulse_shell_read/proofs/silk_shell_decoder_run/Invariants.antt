-- What h halves leave.
use Rattle.pulse_shell_halves.proofs.Halves.{Halving}
use Rattle.pulse_shell_read.proofs.silk_shell_decoder_run.Given as goal

abbrev pub invariant-loop-h : goal.invariant-loop-h
invariant-loop-h l = Halving 3 8 112 l.left l.p l.initial.r l.fn.places l.r l.places l.h
