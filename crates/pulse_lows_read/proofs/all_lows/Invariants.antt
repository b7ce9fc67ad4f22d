-- The places before this one have their low bits, and the tree has come as far.
use Rattle.std.proofs.Common.{◌≡◌, length, pos}
use Rattle.silk.specs.PulseSyntax.{low_bits}
use Rattle.silk.specs.Inner.Pulses.{mags}
use Rattle.silk.proofs.PulsePlaces.{Going}
use Rattle.pulse_lows_read.proofs.all_lows.Given as goal

abbrev pub invariant-loop-k : goal.invariant-loop-k
invariant-loop-k l = record {
  going : Going pos 0 (low_bits l.n) 160 l.fn.r.packet.now l.fn.r.state (mags l.fn.places) l.places l.r.state l.k;
  packet : l.r.packet ≡ l.fn.r.packet;
  size : length l.places ≡ 16;
}
