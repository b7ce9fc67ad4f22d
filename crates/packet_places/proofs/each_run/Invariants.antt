-- What the loop of `each_run` keeps: a turn begins. Assumes nothing.
use Rattle.packet_places.proofs.TurnLaws.{Turn}
use Rattle.packet_places.proofs.each_run.Given as goal

abbrev pub invariant-loop-k : goal.invariant-loop-k
invariant-loop-k l = Turn l.s l.f l.span.head l.p.start l.p.size l.at l.place l.k
