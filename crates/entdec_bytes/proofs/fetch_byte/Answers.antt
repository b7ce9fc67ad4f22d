-- The byte stands above the window, and the wrapping sum does not wrap.
use Rattle.std.proofs.Common.{refl, arith}
use Rattle.std.proofs.Math.Nat.{mod-eq_of_lt}
use Rattle.entcode.specs.Reader.{Bytes}
use Rattle.entdec_bytes.proofs.Window.{byte_above}
use Rattle.entdec_bytes.proofs.fetch_byte.Goals as goal

pub returns : goal.returns
returns c =
    let y : Bytes c.args.packet.now = λ i. omega (arith, c.type_inv.packet i) in
    let e = byte_above c.args.packet.now c.args.d y c.requires.windowed c.requires.wbits_bound in
    rw (c.ec_read_byte_from_end-b.ensures, c.place_after.ensures, e.0, mod-eq_of_lt e.1) refl
