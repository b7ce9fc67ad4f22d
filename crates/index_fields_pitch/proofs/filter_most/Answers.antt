-- `index_fields_pitch::filter_most` meets its contract. Assumes nothing.
use Rattle.std.proofs.Common.{◌≡◌, nat_abs, w8, arith}
use Rattle.silk.proofs.IndexParts.{upto_bits}
use Rattle.index_fields_pitch.proofs.filter_most.Goals as goal

pub returns-in-0 : goal.returns-in-0
returns-in-0 c u = let e : nat_abs c.args.period ≡ 0 = omega (arith, upto_bits w8 u) in rw e

pub returns-in-1 : goal.returns-in-1
returns-in-1 c u = let e : nat_abs c.args.period ≡ 1 = omega (arith, upto_bits w8 u) in rw e

pub returns-in_default : goal.returns-in_default
returns-in_default c u = let e : nat_abs c.args.period ≡ 2 = omega (arith, u.most, upto_bits w8 u) in rw e
