-- The rate's test, and the rule of a reading call. Assumes nothing.
use Rattle.std.proofs.Common.{arith}
use borrow.Author.Tests.{le-leb, lt-leb}
use Rattle.silk.proofs.PulseSent.{numbers_write}
use Rattle.encode_pulses.proofs.write_rule.Goals as goal

pub returns-then-rate-le8 : goal.returns-then-rate-le8
returns-then-rate-le8 c = rw (numbers_write, le-leb c.args.rate 8 (omega arith)) c.pulse_rule.ensures

pub returns-else-rate-le8 : goal.returns-else-rate-le8
returns-else-rate-le8 c = rw (numbers_write, lt-leb c.args.rate 8 (omega arith))
