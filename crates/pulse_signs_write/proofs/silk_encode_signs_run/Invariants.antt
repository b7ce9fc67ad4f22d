-- The symbols before this one are told.
use Rattle.std.proofs.Common.{◌≡◌}
use Rattle.entcode.specs.Flat.{out}
use Rattle.pulse_signs_write.specs.Inner.{signs_said}
use Rattle.pulse_signs_write.proofs.SaidLaws.{SignsTo}
use Rattle.pulse_signs_write.proofs.silk_encode_signs_run.Given as goal

abbrev pub invariant-loop-symbol : goal.invariant-loop-symbol
invariant-loop-symbol l = record {
  told : SignsTo l.row l.pulses (out l.fn.buf l.fn.from) (out l.buf l.w) l.symbol-index;
  are : l.symbol-items ≡ signs_said l.pulses;
}
