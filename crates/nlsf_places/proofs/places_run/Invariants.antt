-- From place 2 k on stand the places, before it the old values; r is the residual of place 2 k, and q the share before its value.
-- Assumes nothing.
use Rattle.std.proofs.Common.{◌*◌}
use Rattle.nlsf_places.specs.Inner.{weighted}
use Rattle.nlsf_places.proofs.Came.{Came}
use Rattle.nlsf_places.proofs.places_run.Given as goal

abbrev pub invariant-loop-k : goal.invariant-loop-k
invariant-loop-k l = Came (weighted l.step l.selectors l.lists l.values) l.fn.vector l.xs l.vector l.r l.q (2 * l.k)
