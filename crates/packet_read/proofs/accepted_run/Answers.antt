-- `accepted_run` meets its contract: the frames stand in their places, whichever way they were put there. Assumes nothing.
use Rattle.packet_read.proofs.CallLaws.{answer}
use Rattle.packet_read.proofs.accepted_run.Goals as goal

pub returns-then-f-le4 : goal.returns-then-f-le4
returns-then-f-le4 c = answer _ _ _ _ _ _ _ c.requires.0 c.requires.2 c.few_run.ensures c.answer_run.ensures

pub returns-else-f-le4 : goal.returns-else-f-le4
returns-else-f-le4 c = answer _ _ _ _ _ _ _ c.requires.0 c.requires.2 c.many_run.ensures c.answer_run-else-f-le4.ensures
