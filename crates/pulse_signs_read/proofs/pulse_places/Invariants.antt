-- The places before this one that have a pulse are gathered.
use Rattle.std.proofs.Common.{◌≡◌, length}
use Rattle.pulse_signs_read.specs.Inner.{Gathered}
use Rattle.pulse_signs_read.proofs.pulse_places.Given as goal

abbrev pub invariant-loop-k : goal.invariant-loop-k
invariant-loop-k l = record { size : length l.at ≡ 16; gathered : Gathered l.places l.at l.n l.k }
