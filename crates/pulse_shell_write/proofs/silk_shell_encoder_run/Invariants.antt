-- The splits before this one that have pulses are told.
use Rattle.entcode.specs.Flat.{out}
use Rattle.silk.proofs.PulseTold.{ToldTo}
use Rattle.pulse_shell_splits.specs.Inner.{parts_of}
use Rattle.pulse_shell_spoken.specs.Inner.{no_part, spoken}
use Rattle.pulse_shell_write.proofs.Said.{split_of, itself}
use Rattle.pulse_shell_write.proofs.silk_shell_encoder_run.Given as goal

abbrev pub invariant-loop-k : goal.invariant-loop-k
invariant-loop-k l = ToldTo no_part split_of itself 16 (out l.fn.buf l.fn.w) (spoken (parts_of 4 l.places)) (out l.buf l.q) l.k
