-- The numbers before this one stand. Assumes nothing.
use Rattle.std.proofs.Common.{◌≡◌, take, length}
use Rattle.frame_text.proofs.widened.Given as goal

abbrev pub invariant-loop-i : goal.invariant-loop-i
invariant-loop-i g l = (length l.wide ≡ length l.xs) × (take l.i l.wide ≡ take l.i l.xs)
