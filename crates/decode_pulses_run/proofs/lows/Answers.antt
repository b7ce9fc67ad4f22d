-- The low bits of one more block.
use Rattle.std.proofs.Common.{◌∙◌, refl, arith}
use Rattle.silk.proofs.PulseRowLaws.{low_bit_in}
use Rattle.decode_pulses_run.proofs.Rounds.{round_start, round_natural, round_has, round_size, round_next, round_end}
use Rattle.decode_pulses_run.proofs.lows.Goals as goal

pub loop-i-init : goal.loop-i-init
loop-i-init c = record { going = round_start c.requires.n_bound.2 c.args.r.now.core; packet = refl }

pub block_lows_run-requires-clause-row_value : goal.block_lows_run-requires-clause-row_value
block_lows_run-requires-clause-row_value c =
    (low_bit_in c.args.rows.now c.requires.pulse_rows, omega (arith, c.from.ensures, c.requires.n_bound.1 c.loop-i.i))

pub block_lows_run-requires-clause-natural : goal.block_lows_run-requires-clause-natural
block_lows_run-requires-clause-natural c =
    let g = c.loop-i.invariant.going in
    let t = c.loop-i-test.true in
    (round_natural g t, round_size g t, (round_has g t).most)

pub loop-i-preserved : goal.loop-i-preserved
loop-i-preserved c =
    let i = c.loop-i.invariant in
    let a = c.block_lows_run in
    let e = rw (i.packet, c.from.ensures) at a.ensures.placed in
    record {
      going = round_next i.going c.loop-i-test.true e.is a.auto.places e.ran;
      packet = a.ensures.packet ∙ i.packet;
    }

pub returns-clause-lowered : goal.returns-clause-lowered
returns-clause-lowered c = round_end c.loop-i.invariant.going c.loop-i-test.false
