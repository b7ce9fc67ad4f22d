-- A voiced frame has a pitch. Assumes nothing.
use Rattle.std.proofs.Common.{arith}
use borrow.Author.Tests.{eq-eqb, ne_eqb}
use Rattle.tree.proofs.Told.{told_done, told_within}
use Rattle.silk.specs.IndexSyntax.{voicing}
use Rattle.encode_indices.proofs.voicing_tell.Goals as goal

pub returns-then-signal-eq2 : goal.returns-then-signal-eq2
unfolding voicing
returns-then-signal-eq2 c = rw (eq-eqb _ _ c.if-signal-eq2.true) c.pitch_tell_run.ensures

pub returns-else-signal-eq2 : goal.returns-else-signal-eq2
unfolding voicing
returns-else-signal-eq2 c =
    rw (ne_eqb _ _ c.if-signal-eq2.false) (told_within {n = 0} {m = 160} (omega arith) (told_done c.requires.writing.core))
