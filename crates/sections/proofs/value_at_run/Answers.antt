-- Two bytes are 16 bits. Assumes nothing.
use Rattle.std.proofs.Common.{◌+◌, ◌∙◌, arith}
use borrow.Author.Rules.{sfits_of}
use mir.Syntax.{w16}
use mir.Facts.{to_z-of_z}
use Rattle.sections.specs.Values.{byte_at, value_at}
use Rattle.sections.proofs.ValuesLaws.{two_bytes}
use Rattle.sections.proofs.value_at_run.Goals as goal

pub returns : goal.returns
unfolding value_at
returns c =
    let i = c.args.i in
    let r = c.from_be_bytes in
    let s = c.args.s.now in
    to_z-of_z {w = w16} (sfits_of r.type_inv) ∙ r.ensures ∙ two_bytes (byte_at s i) (byte_at s (i + 1))
    (omega (arith, c.type_inv.s i)) (omega (arith, c.type_inv.s (i + 1)))
