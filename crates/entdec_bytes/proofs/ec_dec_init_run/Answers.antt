-- The reader that is renormalised is the fresh one.
use Rattle.std.proofs.Common.{refl}
use Rattle.entcode.specs.Reader.{opened}
use Rattle.entdec_bytes.proofs.ec_dec_init_run.Goals as goal

pub returns : goal.returns
unfolding opened
returns c =
    rw (c.ec_dec_normalize.ensures, c.nought_reader.ensures, c.ec_read_byte-b.ensures, c.place_after.ensures) refl
