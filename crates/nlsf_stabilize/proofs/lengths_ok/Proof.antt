-- `lengths_ok` meets its contract. Assumes nothing.
use borrow.Author.Rules.{rules}
use Rattle.spectrum.specs.Calls.{lengths_ok}
use Rattle.nlsf_stabilize.proofs.lengths_ok.Statement.{statement}
use Rattle.nlsf_stabilize.proofs.lengths_ok.Tie as tie

returns : tie.Need-returns-then-n
unfolding lengths_ok
returns c = rw c.if-n.true

returns_2 : tie.Need-returns-else-n
unfolding lengths_ok
returns_2 c = rw c.if-n.false

pub lengths_ok_spec : {M : Type 1} → statement M
lengths_ok_spec = tie.close (tie.spec (λ c. search rules) returns returns_2)
