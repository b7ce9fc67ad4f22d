-- The test of the numbers so far and of those to come is the test of all. Assumes nothing.
use Rattle.std.proofs.Common.{◌≡◌, ◌&&◌, drop}
use Rattle.lists.specs.Every.{every}
use Rattle.ranges.specs.InRange.{in_range}
use Rattle.ranges.proofs.all_in_range.Given as goal

abbrev pub invariant-loop-x : goal.invariant-loop-x
invariant-loop-x l = (l.ok && every (in_range l.least l.most) (drop l.x-index l.xs)) ≡ every (in_range l.least l.most) l.xs
