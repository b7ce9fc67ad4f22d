-- The packet's refusal comes before the flag's. Assumes nothing.
use Rattle.refusals.proofs.RefusalLaws.{and_refuses}
use Rattle.frame_type.specs.Kind.{type_rule}
use Rattle.frame_type.proofs.type_rule.Goals as goal

pub returns : goal.returns
unfolding type_rule
returns c = and_refuses c.length_rule.result c.active_rule.result c.and.ensures c.length_rule.ensures c.active_rule.ensures
