-- What the loop of `lengths_run` keeps: what was read and what is left are the whole. Assumes nothing.
use Rattle.packet_form.proofs.ReadLaws.{Read}
use Rattle.packet_form.proofs.lengths_run.Given as goal

abbrev pub invariant-loop : goal.invariant-loop
invariant-loop l = Read l.s l.at l.n l.value l.width l.counter
