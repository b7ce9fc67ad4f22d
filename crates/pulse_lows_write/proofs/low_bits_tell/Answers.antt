-- The highest low bit that is not yet told.
use Rattle.std.proofs.Common.{◌≡◌, ◌-◌, ◌/◌, ◌%◌, ◌^◌, arith}
use Rattle.sheet.proofs.SheetRule.{row_good, row_writable}
use Rattle.tree.proofs.Told.{midway_end, told_within}
use Rattle.silk.proofs.PulseRowLaws.{low_bit_size}
use Rattle.silk.proofs.PulseTold.{bit_told, bits_silent}
use Rattle.pulse_lows_write.proofs.low_bits_tell.Goals as goal

pub ec_enc_icdf_run-w-requires-clause-icdf : goal.ec_enc_icdf_run-w-requires-clause-icdf
ec_enc_icdf_run-w-requires-clause-icdf c =
    let bit = c.args.m / 2 ^ (c.loop-k.k - 1) % 2 in
    rw c.requires.row_value.0 (row_good 123 (omega arith), row_writable 123 bit (omega arith) (omega (arith, low_bit_size)))

pub loop-k-preserved : goal.loop-k-preserved
loop-k-preserved c =
    let l = c.loop-k in
    bit_told l.k (l.k - 1) c.args.m (omega arith) l.invariant c.requires.row_value.0 c.ec_enc_icdf_run-w.ensures (omega arith)

pub returns : goal.returns
returns c =
    let l = c.loop-k in
    let e : c.loop-k.k ≡ 0 = omega arith in
    told_within (omega (arith, c.requires.row_value.1)) (midway_end (rw e at l.invariant) (bits_silent c.args.m _))
