-- A reader at the start, or a refusal. Assumes nothing.
use Rattle.std.proofs.Common.{arith, length}
use borrow.Author.Tests.{le-leb, lt-leb}
use Rattle.entcode.specs.Reading.{dec_open}
use Rattle.entdec.proofs.ec_dec_init.Goals as goal

pub returns-then-packet-le-LONGEST : goal.returns-then-packet-le-LONGEST
unfolding dec_open
returns-then-packet-le-LONGEST c = rw (c.of.ensures, c.ec_dec_init_run.ensures, le-leb (length c.args.packet.now) 1275 (omega arith))

pub returns-else-packet-le-LONGEST : goal.returns-else-packet-le-LONGEST
unfolding dec_open
returns-else-packet-le-LONGEST c = rw (c.refused.ensures, c.nought_reader.ensures, lt-leb (length c.args.packet.now) 1275 (omega arith))
