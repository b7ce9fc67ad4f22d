-- The filled window has the bits.
use Rattle.std.proofs.Common.{arith}
use Rattle.entcode.specs.Reader.{Bytes}
use Rattle.entcode.proofs.ReaderLaws.{fill_kept}
use Rattle.entdec_bytes.proofs.raw_bits_run.Goals as goal

pub draw-requires : goal.draw-requires
draw-requires c =
    let a = c.args in
    let y : Bytes a.packet.now = λ i. omega (arith, c.type_inv.packet i) in
    let f = fill_kept a.packet.now a.n a.d y c.requires.core c.requires.n_bound in
    rw c.fill_for.ensures (c.requires.n_bound, f.enough, omega (arith, f.kept.total))
