-- The blocks before this one have their signs, and the tree has come as far.
use Rattle.std.proofs.Common.{◌≡◌}
use Rattle.silk.specs.PulseSyntax.{rows16}
use Rattle.silk.specs.Inner.Pulses.{mags}
use Rattle.silk.proofs.PulseRounds.{Signing}
use Rattle.decode_pulses_run.proofs.signs.Given as goal

abbrev pub invariant-loop-i : goal.invariant-loop-i
invariant-loop-i l = record {
  going : Signing l.fn.r.packet.now l.fn.r.state l.f.signal l.f.offset l.x.counts l.x.lows (rows16 l.f.blocks (mags l.fn.pulses)) l.f.blocks
      l.pulses l.r.state l.i;
  packet : l.r.packet ≡ l.fn.r.packet;
}
