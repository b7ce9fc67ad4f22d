-- `round_up_run` meets its contract: shifting down and up again leaves the multiple of 2^k, and no sum wraps. Assumes nothing.
use Rattle.std.proofs.Common.{◌≡◌, ◌+◌, ◌-◌, ◌^◌, div-mul-le_self, arith, pow_pos, rules}
use Rattle.bitlen.proofs.Shift.{one_shl}
use Rattle.entenc_finish_digits.proofs.round_up_run.Statement.{statement}
use Rattle.entenc_finish_digits.proofs.round_up_run.Tie as tie

sub_last : tie.Need-overflow_sub-last
sub_last c = omega (arith, one_shl c.args.k c.requires.0, pow_pos c.args.k)

-- the sum in whole numbers
sums : (c : tie.After-wrapping_add_u32-sum) → c.wrapping_add_u32-sum.result ≡ c.args.n + (2 ^ c.args.k - 1)
sums c =
    let b = c.before in
    omega (arith, one_shl b.args.k b.requires.0, b.requires.1, pow_pos b.args.k)

returns : tie.Need-returns
returns c =
    let b = c.before in
    let p = 2 ^ b.args.k in
    rw (sums c) (omega (arith, div-mul-le_self (b.args.n + (p - 1)) p, b.requires.1, pow_pos b.args.k))

pub round_up_run_spec : {M : Type 1} → statement M
round_up_run_spec =
    tie.close
    (tie.spec
    (λ c. search rules) sub_last (λ c κs. search rules) (λ c. search rules) (λ c. search rules) returns)
