-- One more low bit behind those read so far.
use Rattle.std.proofs.Common.{◌≡◌, ◌+◌, ◌*◌, ◌^◌, ◌≤◌, ◌<◌, ℕ, length, ap, arith}
use lib.Pow.{pow_mono, pow-add}
use Rattle.sheet.proofs.SheetRule.{row_good}
use Rattle.symbol_reader.proofs.AlongLaws.{midway_next, midway_end}
use Rattle.silk.proofs.PulseSteps.{bits_end, bits_next}
use Rattle.silk.proofs.PulseRowLaws.{low_bit_size}
use Rattle.pulse_lows_read.proofs.low_bits.Goals as goal

-- at most ten low bits behind a magnitude
within : (v k : ℕ) → v < 17 * 2 ^ k → k ≤ 10 → v ≤ 17407
within v k h l = omega (arith, pow_mono {i = k} {j = 10} l)

pub symbol_run-requires-clause-icdf : goal.symbol_run-requires-clause-icdf
symbol_run-requires-clause-icdf c = rw c.requires.row_value (row_good 123 (omega arith))

pub overflow_add-v : goal.overflow_add-v
overflow_add-v c =
    let l = c.loop in
    let w = within l.v l.counter l.invariant.small (omega arith) in
    omega (arith, w, c.symbol_run.ensures.took.inside, ap length c.requires.row_value, low_bit_size)

pub loop-preserved : goal.loop-preserved
loop-preserved c =
    let l = c.loop in
    let a = c.symbol_run.ensures in
    let row = c.requires.row_value in
    let q : 2 ^ (c.loop.counter + 1) ≡ 2 ^ c.loop.counter * 2 = pow-add 2 c.loop.counter 1 in
    record {
      midway = midway_next l.invariant.midway a (λ t. bits_next _ l.r.state _ c.args.n l.counter l.v _ row t (omega arith)) (omega arith);
      small = omega (arith, l.invariant.small, a.took.inside, ap length row, low_bit_size);
    }

pub returns-clause-along : goal.returns-clause-along
returns-clause-along c =
    let l = c.loop in
    midway_end l.invariant.midway (bits_end _ l.r.state c.args.n l.counter l.v (omega arith)) (omega (arith, c.requires.m_bound.1))

pub returns-clause-value_bound : goal.returns-clause-value_bound
returns-clause-value_bound c = within c.loop.v c.loop.counter c.loop.invariant.small (omega arith)
