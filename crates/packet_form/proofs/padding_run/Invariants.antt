-- What the loop of `padding_run` keeps, n length bytes of 255, and its measure: the bytes left. Assumes nothing.
use Rattle.std.proofs.Common.{◌-◌, length}
use Rattle.packet_form.proofs.ReadLaws.{Runs}
use Rattle.packet_form.proofs.padding_run.Given as goal

abbrev pub invariant-loop-n : goal.invariant-loop-n
invariant-loop-n l = Runs l.s l.at l.n

abbrev pub decreases-loop-n : goal.decreases-loop-n
decreases-loop-n l = length l.s - l.n
