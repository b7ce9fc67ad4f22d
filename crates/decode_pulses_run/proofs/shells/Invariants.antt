-- The blocks before this one are split, and the tree has come as far.
use Rattle.std.proofs.Common.{◌≡◌}
use Rattle.silk.proofs.PulseRounds.{Splitting}
use Rattle.decode_pulses_run.proofs.shells.Given as goal

abbrev pub invariant-loop-i : goal.invariant-loop-i
invariant-loop-i l = record {
  going : Splitting l.fn.r.packet.now l.fn.r.state l.x.counts l.x.lows l.n l.pulses l.r.state l.i;
  packet : l.r.packet ≡ l.fn.r.packet;
}
