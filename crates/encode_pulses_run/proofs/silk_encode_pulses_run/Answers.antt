-- Behind the rate level the counts, the splits, the low bits, the signs.
use Rattle.std.proofs.Common.{◌+◌, ◌/◌, ◌<◌, arith}
use Rattle.sheet.proofs.Families.{rate_stands}
use Rattle.sheet.proofs.SheetRule.{row_good, row_writable}
use Rattle.silk.proofs.PulseRowLaws.{rate_in}
use Rattle.encode_pulses_run.proofs.Chain.{chain}
use Rattle.encode_pulses_run.proofs.silk_encode_pulses_run.Goals as goal

pub ec_enc_icdf_run-a-requires-clause-icdf : goal.ec_enc_icdf_run-a-requires-clause-icdf
ec_enc_icdf_run-a-requires-clause-icdf c =
    let k = c.args.f.signal / 2 in
    let h : c.args.f.signal / 2 < 2 = omega (arith, c.requires.blocks_bound.2) in
    let w = row_writable (46 + k) c.args.rate (omega (arith, h)) (omega (arith, (rate_stands k h).size, c.requires.blocks_bound.4)) in
    rw (rate_in c.args.rows.now k c.requires.pulse_rows h) (row_good (46 + k) (omega (arith, h)), w)

pub counts_tell_run-c-requires-clause-level_bound : goal.counts_tell_run-c-requires-clause-level_bound
counts_tell_run-c-requires-clause-level_bound c = (omega (arith, c.requires.blocks_bound.4), c.requires.blocks_bound.0)

pub counts_tell_run-c-requires-clause-at_most : goal.counts_tell_run-c-requires-clause-at_most
counts_tell_run-c-requires-clause-at_most c = (c.requires.suited.most, c.requires.suited.few)

pub splits-s-requires-clause-n_bound : goal.splits-s-requires-clause-n_bound
splits-s-requires-clause-n_bound c = let p = c.requires.blocks_bound in (p.0, p.1, c.requires.suited)

pub lows-l-requires-clause-n_bound : goal.lows-l-requires-clause-n_bound
lows-l-requires-clause-n_bound c = let p = c.requires.blocks_bound in (p.0, p.1, c.requires.suited.few)

pub returns : goal.returns
returns c =
    let k = c.args.f.signal / 2 in
    let h : c.args.f.signal / 2 < 2 = omega (arith, c.requires.blocks_bound.2) in
    let a = c.args in
    chain _ _ _ _ _ _ _ a.f.signal a.f.offset a.rate a.f.blocks _ _ a.pulses.now c.requires.blocks_bound.0 c.requires.suited
    (rate_in a.rows.now k c.requires.pulse_rows h)
    c.ec_enc_icdf_run-a.ensures
    c.counts_tell_run-c.ensures
    c.splits-s.ensures
    c.lows-l.ensures
    c.signs.ensures
