-- Each branch cuts the part of its value.
use Rattle.std.proofs.Common.{ap, ◌∙◌, arith}
use Rattle.entcode.specs.Models.{bit}
use Rattle.entcode.specs.Reader.{Bytes}
use Rattle.entcode.specs.Reading.{gives}
use Rattle.entcode.proofs.ReadLaws.{bit_one, bit_zero, bit_read, took}
use Rattle.entdec_run.proofs.ec_dec_bit_logp_run.Goals as goal

pub returns-then-d-part : goal.returns-then-d-part
returns-then-d-part c =
    let a = c.args in
    let p = a.packet.now in
    let y : Bytes p = λ i. omega (arith, c.type_inv.packet i) in
    let u = bit_one a.lp a.d c.requires.le_lp.0 c.if-d-part.true in
    took p (bit a.lp) a.d _ y c.requires.le_lp c.requires.core
    (c.of.ensures ∙ ap (gives 1) c.cut_run.ensures ∙ bit_read p a.lp a.d _ _ _ u)

pub returns-else-d-part : goal.returns-else-d-part
returns-else-d-part c =
    let a = c.args in
    let p = a.packet.now in
    let y : Bytes p = λ i. omega (arith, c.type_inv.packet i) in
    let u = bit_zero a.lp a.d c.if-d-part.false in
    took p (bit a.lp) a.d _ y c.requires.le_lp c.requires.core
    (c.of-else-d-part.ensures ∙ ap (gives 0) c.cut_run-else-d-part.ensures ∙ bit_read p a.lp a.d _ _ _ u)
