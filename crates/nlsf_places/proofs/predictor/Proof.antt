-- `predictor` meets its contract: either list's entry stands inside the row. Assumes nothing.
use mathlib.Core.Path.{refl}
use borrow.Author.Rules.{rules}
use Rattle.nlsf_places.specs.Inner.{predictor_of}
use Rattle.nlsf_places.proofs.predictor.Statement.{statement}
use Rattle.nlsf_places.proofs.predictor.Tie as tie

returns : tie.Need-returns
unfolding predictor_of
returns c = refl

pub predictor_spec : {M : Type 1} → statement M
predictor_spec = tie.close (tie.spec (λ c. search rules) (λ c. search rules) (λ c. search rules) returns)
