-- The signs of one more block, by the row of its count before low bits.
use Rattle.std.proofs.Common.{◌∙◌, get_or, refl, sym}
use mathlib.Core.List.{map-id}
use Rattle.silk.proofs.PulseRowLaws.{sign_good, sign_lent}
use Rattle.symbol_reader.proofs.AlongLaws.{along_ran}
use Rattle.decode_pulses_run.proofs.Rounds.{round_start, round_natural, round_size, round_next, round_end}
use Rattle.decode_pulses_run.proofs.signs.Goals as goal

pub loop-i-init : goal.loop-i-init
loop-i-init c = record { going = round_start c.requires.blocks_bound.3 c.args.r.now.core; packet = refl }

pub silk_decode_signs_run-requires-clause-icdf : goal.silk_decode_signs_run-requires-clause-icdf
silk_decode_signs_run-requires-clause-icdf c =
    let f = c.args.f in
    let p = c.requires.blocks_bound in
    let n = get_or c.args.x.counts c.loop-i.i 0 in
    let r = c.sign_row_at_run-row in
    rw (sign_lent f.signal f.offset n p.1 p.2 r.result r.ensures c.args.rows.now c.requires.pulse_rows) (sign_good f.signal f.offset n p.1 p.2)

pub silk_decode_signs_run-requires-clause-natural : goal.silk_decode_signs_run-requires-clause-natural
silk_decode_signs_run-requires-clause-natural c =
    let g = c.loop-i.invariant.going in
    let t = c.loop-i-test.true in
    (round_natural g t, round_size g t)

pub loop-i-preserved : goal.loop-i-preserved
loop-i-preserved c =
    let l = c.loop-i in
    let i = l.invariant in
    let f = c.args.f in
    let p = c.requires.blocks_bound in
    let n = get_or c.args.x.counts c.loop-i.i 0 in
    let w = c.sign_row_at_run-row in
    let a = c.silk_decode_signs_run in
    let q = along_ran a.ensures in
    let e = rw (i.packet, sign_lent f.signal f.offset n p.1 p.2 w.result w.ensures c.args.rows.now c.requires.pulse_rows) at q in
    record {
      going = round_next i.going c.loop-i-test.true (sym (map-id a.new.places)) a.auto.places e;
      packet = a.ensures.packet ∙ i.packet;
    }

pub returns-clause-signed : goal.returns-clause-signed
returns-clause-signed c = round_end c.loop-i.invariant.going c.loop-i-test.false
