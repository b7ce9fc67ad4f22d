-- The places up to the last of those that were read have their signs, and the tree has come as far.
use Rattle.std.proofs.Common.{◌≡◌, length}
use Rattle.pulse_signs_read.specs.Inner.{behind, Gathered}
use Rattle.pulse_signs_read.proofs.Signing.{Signing}
use Rattle.pulse_signs_read.proofs.all_signs.Given as goal

abbrev pub invariant-loop-k : goal.invariant-loop-k
invariant-loop-k l = record {
  gathered : Gathered l.fn.places l.k-items l.n 16;
  going : Signing l.fn.r.packet.now l.row l.fn.places l.fn.r.state l.places l.r.state (behind l.k-items l.k-index);
  packet : l.r.packet ≡ l.fn.r.packet;
  size : length l.places ≡ 16;
  count : length l.k-items ≡ l.n;
}
