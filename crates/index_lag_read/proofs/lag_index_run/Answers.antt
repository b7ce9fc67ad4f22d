-- `index_lag_read::lag_index_run` meets its contract: a lag against the frame before, or an absolute one. Assumes nothing.
use Rattle.std.proofs.Common.{◌≡◌, arith}
use borrow.Author.Rules.{sfits_of}
use borrow.Author.Tests.{eq-eqb, ne_eqb}
use mir.Syntax.{w16}
use mir.Val.{SFits}
use mir.Facts.{to_z-of_z}
use Rattle.symbol_reader.proofs.AlongLaws.{along_done, along_ask, along_within}
use Rattle.silk.specs.IndexSyntax.{lag_after, lag}
use Rattle.index_lag_read.proofs.lag_index_run.Goals as goal

pub returns-then-v-eq0 : goal.returns-then-v-eq0
unfolding lag
returns-then-v-eq0 c =
    let a = c.symbol_run-v in
    rw c.if-relative.true
    (along_ask {n = 32} c.delta_lag_row_run.ensures.is a.ensures (rw (eq-eqb _ _ c.if-v-eq0.true) c.absolute_lag.ensures))

pub returns-else-v-eq0 : goal.returns-else-v-eq0
unfolding lag
returns-else-v-eq0 c =
    let a = c.symbol_run-v in
    let l = c.lag_after-x in
    let e : l.result ≡ lag_after c.args.before a.result = rw (to_z-of_z c.ranges.before) at l.ensures in
    let f : SFits w16 l.result = sfits_of l.type_inv in
    rw (to_z-of_z f, c.if-relative.true, e)
    (along_within {n = 16} {m = 48} (omega arith)
    (along_ask {n = 0} c.delta_lag_row_run.ensures.is a.ensures (rw (ne_eqb _ _ c.if-v-eq0.false) (along_done _ _))))

pub returns-else-relative : goal.returns-else-relative
unfolding lag
returns-else-relative c = rw c.if-relative.false (along_within {n = 32} {m = 48} (omega arith) c.absolute_lag-else-relative.ensures)
