-- Raw bits are read as the model says.
use Rattle.std.proofs.Common.{◌∙◌, arith}
use Rattle.entcode.specs.Models.{raw}
use Rattle.entcode.specs.Reader.{Bytes}
use Rattle.entcode.proofs.ReadLaws.{raw_read, took}
use Rattle.entdec_run.proofs.ec_dec_bits_run.Goals as goal

pub returns : goal.returns
returns c =
    let a = c.args in
    let p = a.packet.now in
    let y : Bytes p = λ i. omega (arith, c.type_inv.packet i) in
    took p (raw a.n) a.d _ y c.requires.le_n c.requires.core
    (c.raw_bits_run.ensures ∙ raw_read p a.n a.d y c.requires.core c.requires.le_n.1)
