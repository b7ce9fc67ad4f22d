-- `plan_run` meets its contract: refusals 1 and 6. Assumes nothing.
use Rattle.std.proofs.Common.{sym, ◌∙◌}
use borrow.Author.Tests.{eqb-false}
use Rattle.refusals.specs.declared.Refusal.TheVariants.{TooLong, Length}
use Rattle.framing.proofs.WriteRules.{stops_1, stops_6}
use Rattle.packet_plan.proofs.PlanLaws.{stopped}
use Rattle.packet_plan.proofs.plan_run.Goals as goal

pub returns-then-len-gt-LONGEST_PACKET : goal.returns-then-len-gt-LONGEST_PACKET
returns-then-len-gt-LONGEST_PACKET c = stopped _ _ _ _ _ TooLong (stops_1 _ _ _ _ _ c.if-len-gt-LONGEST_PACKET.true)

pub returns-else-adds_up : goal.returns-else-adds_up
returns-else-adds_up c =
    stopped _ _ _ _ _ Length
    (stops_6 _ _ _ _ _ c.if-len-gt-LONGEST_PACKET.false (eqb-false _ _ (sym c.adds_up.ensures ∙ c.if-adds_up.false)))
