-- Behind the rate level the counts, the splits, the low bits, the signs.
use Rattle.std.proofs.Common.{◌+◌, ◌/◌, ◌<◌, ◌∙◌, length, ap, arith}
use Rattle.sheet.proofs.Families.{rate_stands}
use Rattle.sheet.proofs.SheetRule.{row_good}
use Rattle.silk.proofs.PulseRowLaws.{rate_in}
use Rattle.silk.specs.Inner.Pulses.{Small, Sixteen}
use Rattle.silk.proofs.PulseBlocks.{turned_held}
use Rattle.symbol_reader.proofs.AlongLaws.{along_ran}
use Rattle.decode_pulses_run.proofs.Chain.{chain}
use Rattle.decode_pulses_run.proofs.silk_decode_pulses_run.Goals as goal

pub symbol_run-level-requires-clause-icdf : goal.symbol_run-level-requires-clause-icdf
symbol_run-level-requires-clause-icdf c =
    let k = c.args.signal / 2 in
    let h : c.args.signal / 2 < 2 = omega (arith, c.requires.n_bound.2) in
    rw (rate_in c.args.rows.now k c.requires.pulse_rows h) (row_good (46 + k) (omega (arith, h)))

pub counts_run-x-requires-clause-level_bound : goal.counts_run-x-requires-clause-level_bound
counts_run-x-requires-clause-level_bound c =
    let k = c.args.signal / 2 in
    let h : c.args.signal / 2 < 2 = omega (arith, c.requires.n_bound.2) in
    let e = rate_in c.args.rows.now k c.requires.pulse_rows h in
    (omega (arith, c.symbol_run-level.ensures.took.inside, ap length e, (rate_stands k h).size), c.requires.n_bound.0)

pub lows-requires-clause-n_bound : goal.lows-requires-clause-n_bound
lows-requires-clause-n_bound c =
    let p = c.requires.n_bound in
    let t = c.shells in (
      p.0,
      c.counts_run-x.ensures.at_most.1,
      turned_held Small (λ w k. k.size) _ _ _ _ t.new.pulses _ c.args.n t.ensures.split (t.auto.pulses ∙ p.1),
    )

pub signs-requires-clause-blocks_bound : goal.signs-requires-clause-blocks_bound
signs-requires-clause-blocks_bound c =
    let p = c.requires.n_bound in
    let u = c.lows in (
      p.0,
      p.2,
      p.3,
      turned_held Sixteen (λ w k. k) _ _ _ _ u.new.pulses _ c.args.n u.ensures.lowered (u.auto.pulses ∙ c.shells.auto.pulses ∙ p.1),
    )

pub returns-clause-excited : goal.returns-clause-excited
returns-clause-excited c =
    let k = c.args.signal / 2 in
    let h : c.args.signal / 2 < 2 = omega (arith, c.requires.n_bound.2) in
    let a = c.symbol_run-level.ensures in
    let f = c.counts_run-x in
    let along = along_ran f.ensures.along in
    let second = f.ensures.along.packet ∙ a.packet in
    let third = c.shells.ensures.packet ∙ second in
    let last = c.lows.ensures.packet ∙ third in
    let counts = rw a.packet at along in
    let split = rw second at c.shells.ensures.split in
    let lowered = rw third at c.lows.ensures.lowered in
    let signed = rw last at c.signs.ensures.signed in
    chain _ _ _ _ c.args.signal c.args.offset c.args.n f.result.counts f.result.lows c.shells.new.pulses c.lows.new.pulses _ _ _ _ _
    c.requires.n_bound.0 (rate_in c.args.rows.now k c.requires.pulse_rows h) a.took counts split lowered signed
