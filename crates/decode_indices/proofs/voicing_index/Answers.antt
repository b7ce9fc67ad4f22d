-- A voiced frame has a pitch. Assumes nothing.
use Rattle.std.proofs.Common.{arith}
use borrow.Author.Tests.{eq-eqb, ne_eqb}
use Rattle.symbol_reader.proofs.AlongLaws.{along_done, along_within}
use Rattle.silk.specs.IndexSyntax.{voicing}
use Rattle.decode_indices.proofs.voicing_index.Goals as goal

pub returns-then-signal-eq2 : goal.returns-then-signal-eq2
unfolding voicing
returns-then-signal-eq2 c = rw (eq-eqb _ _ c.if-signal-eq2.true) c.pitch_run.ensures

pub returns-else-signal-eq2 : goal.returns-else-signal-eq2
unfolding voicing
returns-else-signal-eq2 c = rw (ne_eqb _ _ c.if-signal-eq2.false) (along_within {n = 0} {m = 160} (omega arith) (along_done _ _))
