-- `index_lag_write::delta_tell` meets its contract. Assumes nothing.
use Rattle.std.proofs.Common.{refl, arith}
use Rattle.tree.proofs.Told.{midway_start, midway_asked}
use Rattle.silk.specs.IndexSyntax.{lag}
use Rattle.index_lag_write.proofs.delta_tell.Goals as goal

pub ec_enc_icdf8_run-requires-clause-icdf : goal.ec_enc_icdf8_run-requires-clause-icdf
ec_enc_icdf8_run-requires-clause-icdf c = let t = c.delta_lag_row_run.ensures in (t.good, t.writable 0 (omega arith))

pub returns-then-relative : goal.returns-then-relative
unfolding lag
returns-then-relative c = λ khz before x.
    rw c.if-relative.true
    (midway_asked (midway_start {n = 0} c.requires.core) c.delta_lag_row_run.ensures.is refl c.ec_enc_icdf8_run.ensures (omega arith))

pub returns-else-relative : goal.returns-else-relative
unfolding lag
returns-else-relative c = λ khz before x. rw c.if-relative.false (midway_start c.requires.core)
