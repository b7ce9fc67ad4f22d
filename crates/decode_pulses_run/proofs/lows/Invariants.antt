-- The blocks before this one have their low bits, and the tree has come as far.
use Rattle.std.proofs.Common.{◌≡◌}
use Rattle.silk.specs.PulseSyntax.{rows16}
use Rattle.silk.specs.Inner.Pulses.{mags}
use Rattle.silk.proofs.PulseRounds.{Lowering}
use Rattle.decode_pulses_run.proofs.lows.Given as goal

abbrev pub invariant-loop-i : goal.invariant-loop-i
invariant-loop-i l = record {
  going : Lowering l.fn.r.packet.now l.fn.r.state l.x.counts l.x.lows (rows16 l.n (mags l.fn.pulses)) l.n l.pulses l.r.state l.i;
  packet : l.r.packet ≡ l.fn.r.packet;
}
