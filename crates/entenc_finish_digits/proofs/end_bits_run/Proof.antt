-- `end_bits_run` meets its contract: the leading zeros leave a cell that fits in the range, the sum does not wrap, and the test is the
-- definition's. Assumes nothing.
use Rattle.std.proofs.Common.{◌≡◌, ◌+◌, ◌-◌, ◌<◌, ◌≤◌, add-one, arith, rules, le-ltb, lt-ltb}
use lib.Count.{count_leading_zeros}
use Rattle.entcode.specs.Finish.{cell, round_up}
use Rattle.entcode.proofs.FinishLaws.{Zeros, zeros, round_up_lem}
use Rattle.bitlen.proofs.Shift.{one_shl}
use Rattle.entenc_finish_digits.proofs.end_bits_run.Statement.{statement}
use Rattle.entenc_finish_digits.proofs.end_bits_run.Tie as tie

lead : (c : tie.Start) → Zeros c.args.rng (count_leading_zeros 32 c.args.rng)
lead c = zeros c.args.rng c.requires.0 c.requires.1

-- the end value is below value + range
below : (c : tie.Start) → round_up c.args.val (cell (count_leading_zeros 32 c.args.rng)) < c.args.val + c.args.rng
below c = omega (arith, (round_up_lem c.args.val (cell (count_leading_zeros 32 c.args.rng)) (lead c).some).1, (lead c).inside)

sub_k : tie.Need-overflow_sub-k
sub_k c = omega (arith, (lead c).few)

round_up_run_requires : tie.Need-round_up_run-end-requires
round_up_run_requires c κs = (omega arith, omega (arith, (lead c).inside, c.requires.2))

-- the sum in whole numbers
sums : (c : tie.After-wrapping_add_u32-top) → c.wrapping_add_u32-top.result ≡ c.args.val + c.args.rng
sums c = omega (arith, c.requires.2)

sub_left : tie.Need-overflow_sub-left
sub_left c = omega (arith, sums c, below c.before.before, c.round_up_run-end.ensures)

add_result : tie.Need-overflow_add-result
add_result c = omega (arith, (lead c.before.before.before).few)

returns : tie.Need-returns-then-left-k
returns c =
    let a = c.before in
    let b = a.before.before in
    let l = count_leading_zeros 32 b.args.rng in
    let t : b.args.val + b.args.rng < round_up b.args.val (cell l) + cell l
    = omega (arith, c.if-left-k.true, sums a, a.round_up_run-end.ensures, one_shl (31 - l) (omega arith), below b) in
    rw (lt-ltb (b.args.val + b.args.rng) (round_up b.args.val (cell l) + cell l) t, add-one)

returns_2 : tie.Need-returns-else-left-k
returns_2 c =
    let a = c.before in
    let b = a.before.before in
    let l = count_leading_zeros 32 b.args.rng in
    let t : round_up b.args.val (cell l) + cell l ≤ b.args.val + b.args.rng
    = omega (arith, c.if-left-k.false, sums a, a.round_up_run-end.ensures, one_shl (31 - l) (omega arith), below b) in
    rw (le-ltb (b.args.val + b.args.rng) (round_up b.args.val (cell l) + cell l) t)

pub end_bits_run_spec : {M : Type 1} → statement M
end_bits_run_spec =
    tie.close
    (tie.spec
    sub_k round_up_run_requires (λ c κs. search rules) sub_left (λ c. search rules) add_result returns returns_2)
