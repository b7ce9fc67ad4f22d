-- Either arm's order is that of its rate's book. Assumes nothing.
use Rattle.nlsf_decode.proofs.RowLaws.{wide_under, narrow_under, order_is}
use Rattle.nlsf_decode.proofs.order_of.Goals as goal

pub returns-then-khz-eq16 : goal.returns-then-khz-eq16
returns-then-khz-eq16 c = order_is (wide_under _ c.if-khz-eq16.true)

pub returns-else-khz-eq16 : goal.returns-else-khz-eq16
returns-else-khz-eq16 c = order_is (narrow_under _ c.if-khz-eq16.false)
