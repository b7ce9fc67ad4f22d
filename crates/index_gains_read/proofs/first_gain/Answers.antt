-- `index_gains_read::first_gain` meets its contract: one symbol against the frame before, or two by themselves. Assumes nothing.
use Rattle.std.proofs.Common.{◌≡◌, ◌+◌, ◌*◌, pos, w8, to_z, arith}
use borrow.Author.Tests.{eq-eqb, ne_eqb}
use mir.Facts.{to_z_pos}
use Rattle.symbol_reader.proofs.AlongLaws.{along_done, along_ask, along_within}
use Rattle.silk.specs.IndexSyntax.{first_gain}
use Rattle.silk.proofs.IndexSteps.{symbol_is}
use Rattle.index_gains_read.proofs.first_gain.Goals as goal

pub returns-then-relative : goal.returns-then-relative
unfolding first_gain
returns-then-relative c =
    let a = c.symbol_run in
    let t = c.delta_gain_row_run.ensures in
    rw (eq-eqb c.args.mode 2 c.if-relative.true, symbol_is t a.ensures.took (omega arith))
    (along_within {n = 16} {m = 32} (omega arith) (along_ask t.is a.ensures (along_done _ _)))

pub returns-else-relative : goal.returns-else-relative
unfolding first_gain
returns-else-relative c =
    let h = c.symbol_run-high in
    let l = c.symbol_run-low in
    let t = c.gain_row_run.ensures in
    let u = c.gain_low_row_run.ensures in
    let v = h.result * 8 + l.result in
    let e : to_z w8 v ≡ pos v = to_z_pos w8 {n = v} (omega (arith, h.ensures.took.inside, t.size, l.ensures.took.inside, u.size)) in
    rw (ne_eqb c.args.mode 2 c.if-relative.false, e) (along_ask t.is h.ensures (along_ask u.is l.ensures (along_done _ _)))
