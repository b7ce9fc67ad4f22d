-- A mask of n ones is the remainder by 2^n.
use Rattle.std.proofs.Common.{refl, arith}
use lib.Bits.{and_mask}
use Rattle.bitlen.proofs.Shift.{one_shl}
use Rattle.entdec_bytes.proofs.draw.Goals as goal

pub returns : goal.returns
returns c =
    let a = c.args in
    rw (c.of.ensures, one_shl a.n (omega arith), and_mask a.d.window a.n) refl
