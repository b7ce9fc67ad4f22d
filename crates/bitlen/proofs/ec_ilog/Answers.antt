-- Leading zeros and bit length share the 32 digits. Assumes nothing.
use native.Mathlib.Omega.{arith}
use Rattle.bitlen.proofs.LengthLaws.{leading_zeros_length}
use Rattle.bitlen.proofs.ec_ilog.Goals as goal

pub overflow_sub-result : goal.overflow_sub-result
overflow_sub-result c = omega (arith, leading_zeros_length c.args.x)

pub returns : goal.returns
returns c = omega (arith, leading_zeros_length c.args.x)
