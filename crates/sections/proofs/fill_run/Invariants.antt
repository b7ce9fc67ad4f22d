-- The values before this one stand. Assumes nothing.
use Rattle.std.proofs.Common.{◌≡◌, take}
use Rattle.sections.specs.Values.{values_at}
use Rattle.sections.proofs.fill_run.Given as goal

abbrev pub invariant-loop-i : goal.invariant-loop-i
invariant-loop-i l = take l.i l.values ≡ values_at l.s l.at l.i
