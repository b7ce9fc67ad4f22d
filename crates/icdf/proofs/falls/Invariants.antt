-- The entries passed, and the test of those left, are the test of the whole table. Assumes nothing.
use Rattle.std.proofs.Common.{◌≡◌, ◌-◌, get_or, drop}
use mathlib.Core.Bool.{◌&&◌}
use Rattle.icdf.proofs.Entries.{left}
use Rattle.icdf.proofs.falls.Given as goal

abbrev pub invariant-loop-k : goal.invariant-loop-k
invariant-loop-k l = l.ok && left (get_or l.table (l.k - 1) 0) (drop l.k l.table) ≡ left l.top l.table
