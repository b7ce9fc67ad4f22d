-- The checks are the definition's, in its order. Assumes nothing.
use Rattle.std.proofs.Common.{sym, ◌∙◌}
use borrow.Author.Tests.{eq-eqb, ne_eqb}
use Rattle.spectrum.specs.Calls.{decode_refusal}
use Rattle.nlsf_decode.proofs.checked.Goals as goal

pub returns-then-not-numbers_ok : goal.returns-then-not-numbers_ok
unfolding decode_refusal
returns-then-not-numbers_ok c = rw (sym c.numbers_ok.ensures ∙ c.if-not-numbers_ok.true)

pub returns-then-vector-order_of : goal.returns-then-vector-order_of
unfolding decode_refusal
returns-then-vector-order_of c =
    rw (sym c.numbers_ok.ensures ∙ c.if-not-numbers_ok.false, ne_eqb _ _ (λ h. c.if-vector-order_of.true (h ∙ sym c.order_of.ensures)))

pub returns : goal.returns
unfolding decode_refusal
returns c =
    rw (sym c.numbers_ok.ensures ∙ c.if-not-numbers_ok.false, eq-eqb _ _ (c.if-vector-order_of.false ∙ c.order_of.ensures))
