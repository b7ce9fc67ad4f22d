-- The row that is lent is that of the count before low bits; nothing is said of a block without pulses.
use Rattle.std.proofs.Common.{◌≡◌, ◌+◌, ◌-◌, ◌≤◌, ℕ, List, take, drop, pos, subst, arith}
use mathlib.Core.List.{map}
use lib.IntN.{nat_abs}
use Rattle.entcode.specs.Flat.{out}
use Rattle.tree.specs.Inner.Told.{Told}
use Rattle.silk.specs.PulseSyntax.{each, sign_row_of, sign}
use Rattle.silk.proofs.PulseRowLaws.{sign_good, sign_writable, sign_lent}
use Rattle.pulse_block_write.proofs.Empty.{signs_untold}
use Rattle.pulse_block_write.proofs.block_signs_run.Goals as goal

pub silk_encode_signs_run-requires-clause-icdf : goal.silk_encode_signs_run-requires-clause-icdf
silk_encode_signs_run-requires-clause-icdf c =
    let f = c.args.f in
    let p = c.requires.part_len in
    let r = c.sign_row_at_run-row in
    rw (sign_lent f.signal f.offset c.args.c p.2 p.3 r.result r.ensures c.args.rows.now c.requires.pulse_rows)
    (sign_good f.signal f.offset c.args.c p.2 p.3)

pub silk_encode_signs_run-requires-clause-writable : goal.silk_encode_signs_run-requires-clause-writable
silk_encode_signs_run-requires-clause-writable c =
    let f = c.args.f in
    let p = c.requires.part_len in
    let r = c.sign_row_at_run-row in
    let w = sign_writable f.signal f.offset c.args.c p.2 p.3 in
    rw (sign_lent f.signal f.offset c.args.c p.2 p.3 r.result r.ensures c.args.rows.now c.requires.pulse_rows)
    (w 0 (omega arith), w 1 (omega arith))

pub returns-then-some_pulses : goal.returns-then-some_pulses
returns-then-some_pulses c =
    let f = c.args.f in
    let p = c.requires.part_len in
    let r = c.sign_row_at_run-row in
    let a = c.silk_encode_signs_run in
    let v = c.args.part.now in
    subst (λ (q : List ℕ). Told (out c.args.buf.now c.args.w) v (each (pos 0) (sign q) (map nat_abs v)) 256 (out a.new.buf a.result))
    (sign_lent f.signal f.offset c.args.c p.2 p.3 r.result r.ensures c.args.rows.now c.requires.pulse_rows)
    a.ensures

pub returns-else-some_pulses : goal.returns-else-some_pulses
returns-else-some_pulses c =
    let e = c.some_pulses.ensures c.if-some_pulses.false in
    signs_untold _ c.args.c c.args.j c.args.part.now c.requires.part_len.1 e.0 e.1 c.requires.core
