-- The steps up to place i - 1 are not below 0, and `x` is the value there. Assumes nothing.
use Rattle.std.proofs.Common.{◌≡◌, ◌-◌}
use Rattle.spectrum.specs.Values.{at}
use Rattle.nlsf_stabilize_search.specs.Inner.{UpTo}
use Rattle.nlsf_stabilize_search.proofs.rises_run.Given as goal

abbrev pub invariant-loop-i : goal.invariant-loop-i
invariant-loop-i l = record { value : l.x ≡ at l.w (l.i - 1); rising : UpTo (l.i - 1) l.w }
