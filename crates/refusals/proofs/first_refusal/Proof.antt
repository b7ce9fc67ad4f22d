-- `first_refusal` meets its contract. Assumes nothing.
use mathlib.Core.Path.{refl}
use borrow.Author.Tests.{eq-eqb, ne_eqb}
use Rattle.refusals.specs.First.{first_of}
use Rattle.refusals.proofs.first_refusal.Statement.{statement}
use Rattle.refusals.proofs.first_refusal.Tie as tie

returns : tie.Need-returns-then-a-eq0
unfolding first_of
returns c = rw (eq-eqb _ _ c.if-a-eq0.true) refl

returns_2 : tie.Need-returns-else-a-eq0
unfolding first_of
returns_2 c = rw (ne_eqb _ _ c.if-a-eq0.false) refl

pub first_refusal_spec : {M : Type 1} → statement M
first_refusal_spec = tie.close (tie.spec returns returns_2)
