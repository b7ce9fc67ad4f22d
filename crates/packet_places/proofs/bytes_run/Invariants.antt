-- What the loop of `bytes_run` keeps: the first k frames stand in their places. Assumes nothing.
use Rattle.std.proofs.Common.{◌≤◌}
use Rattle.packet_places.proofs.PlaceLaws.{First}
use Rattle.packet_places.proofs.ByteLaws.{listed}
use Rattle.packet_places.proofs.bytes_run.Given as goal

abbrev pub invariant-loop-k : goal.invariant-loop-k
invariant-loop-k l = (l.k ≤ l.n) × First (listed l.s l.at l.n l.span.last) l.span.head l.start l.size l.place l.k
