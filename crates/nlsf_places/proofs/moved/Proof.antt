-- `moved` meets its contract. Assumes nothing.
use Prim.Native.Nat.{◌*◌}
use mathlib.Core.Path.{◌≡◌}
use native.Mathlib.Omega.{arith}
use borrow.Author.Rules.{rules}
use lib.Dec.{lit<}
use lib.IntN.{pos, ◌+ℤ◌, ◌*ℤ◌}
use lib.Signed.{quot_z}
use mir.Syntax.{w32}
use mir.Val.{SFits, to_z, of_z}
use mir.Facts.{to_z-of_z, to_z_pos}
use Rattle.ints.proofs.Sums.{up_sum, down_sum}
use Rattle.ints.proofs.Widths.{parts_fit, quot_fits, times_fits}
use Rattle.spectrum.proofs.ResidualBounds.{moved_fits}
use Rattle.nlsf_places.proofs.moved.Statement.{statement}
use Rattle.nlsf_places.proofs.moved.Tie as tie

product : (c : tie.Start) → SFits w32 (c.args.r *ℤ pos 16384)
product c = times_fits c.args.r 16384 29200 16384 c.requires.0.0 c.requires.0.1 (omega arith) (lit< tt)

quotient : (c : tie.Start) → SFits w32 (quot_z (c.args.r *ℤ pos 16384) (pos c.args.weight))
quotient c = quot_fits (c.args.r *ℤ pos 16384) c.args.weight (product c)

base : (c : tie.Start) → SFits w32 (pos (c.args.value * 128))
base c = parts_fit (pos (c.args.value * 128)) (omega arith) (omega arith)

fits : (c : tie.Start) → SFits w32 (quot_z (c.args.r *ℤ pos 16384) (pos c.args.weight) +ℤ pos (c.args.value * 128))
fits c =
    let m = (moved_fits c.args.weight c.args.r c.requires.0).1 in
    let q = quot_z (c.args.r *ℤ pos 16384) (pos c.args.weight) in
    let b = pos (c.args.value * 128) in
    parts_fit (q +ℤ b) (omega (arith, up_sum q b, m.0)) (omega (arith, down_sum q b, m.1))

-- what the machine divides, and what it adds
divides : (c : tie.Start) → quot_z (to_z w32 (of_z w32 (to_z w32 (of_z w32 c.args.r) *ℤ pos 16384))) (to_z w32 c.args.weight)
    ≡ quot_z (c.args.r *ℤ pos 16384) (pos c.args.weight)
divides c = rw (to_z-of_z c.ranges.r, to_z-of_z (product c), to_z_pos w32 {n = c.args.weight} (omega arith))

sums : (c : tie.Start)
    → to_z w32 (of_z w32 (quot_z (to_z w32 (of_z w32 (to_z w32 (of_z w32 c.args.r) *ℤ pos 16384))) (to_z w32 c.args.weight))) +ℤ to_z w32 (of_z w32 (to_z w32 c.args.value *ℤ pos 128))
    ≡ quot_z (c.args.r *ℤ pos 16384) (pos c.args.weight) +ℤ pos (c.args.value * 128)
sums c = rw (divides c, to_z-of_z (quotient c), to_z_pos w32 {n = c.args.value} (omega arith), to_z-of_z (base c))

mul_result : tie.Need-overflow_mul-result
mul_result c = rw (to_z-of_z c.ranges.r) (product c)

div_result : tie.Need-nonzero_div-result
div_result c = (omega arith, rw (divides c) (quotient c))

mul_result_2 : tie.Need-overflow_mul-result-2
mul_result_2 c = rw (to_z_pos w32 {n = c.args.value} (omega arith)) (base c)

add_result : tie.Need-overflow_add-result
add_result c = rw (sums c) (fits c)

returns : tie.Need-returns
returns c = rw (sums c) (to_z-of_z (fits c))

pub moved_spec : {M : Type 1} → statement M
moved_spec =
    tie.close
    (tie.spec mul_result (λ c. search rules) div_result (λ c. search rules) mul_result_2 add_result returns)
