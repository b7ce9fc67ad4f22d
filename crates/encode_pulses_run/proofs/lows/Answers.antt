-- The low bits of one more block.
use Rattle.std.proofs.Common.{arith}
use Rattle.silk.proofs.PulseRowLaws.{low_bit_in}
use Rattle.encode_pulses_run.proofs.Rounds.{round_start, round_next, round_end}
use Rattle.encode_pulses_run.proofs.lows.Goals as goal

pub loop-i-init : goal.loop-i-init
loop-i-init c = round_start c.requires.core

pub block_lows_tell_run-w-requires-clause-row_value : goal.block_lows_tell_run-w-requires-clause-row_value
block_lows_tell_run-w-requires-clause-row_value c =
    (low_bit_in c.args.rows.now c.requires.pulse_rows, omega (arith, c.from.ensures, c.requires.n_bound.2 c.loop-i.i))

pub loop-i-preserved : goal.loop-i-preserved
loop-i-preserved c =
    let r = c.block_lows_tell_run-w in
    round_next c.loop-i.invariant c.loop-i-test.true (rw c.from.ensures at r.ensures) r.auto.buf

pub returns : goal.returns
returns c = round_end c.loop-i.invariant c.loop-i-test.false
