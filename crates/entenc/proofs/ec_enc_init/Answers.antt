-- A fresh writer, or a refusal with the all-zero state. Assumes nothing.
use Rattle.std.proofs.Common.{refl, arith, length}
use borrow.Author.Tests.{le-leb, lt-leb}
use Rattle.entcode.specs.Writing.{enc_open}
use Rattle.entenc.proofs.ec_enc_init.Goals as goal

pub returns-then-buf-le-LONGEST : goal.returns-then-buf-le-LONGEST
unfolding enc_open
returns-then-buf-le-LONGEST c =
    rw (c.of.ensures, le-leb (length c.args.buf.now) 1275 (omega arith)) refl

pub returns-else-buf-le-LONGEST : goal.returns-else-buf-le-LONGEST
unfolding enc_open
returns-else-buf-le-LONGEST c = rw (c.refused.ensures, c.nought_writer.ensures, lt-leb (length c.args.buf.now) 1275 (omega arith))
