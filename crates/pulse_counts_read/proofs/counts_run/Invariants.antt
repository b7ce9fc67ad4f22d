-- The arrays hold the blocks read so far, and the tree has come as far.
use Rattle.std.proofs.Common.{◌≡◌, ◌*◌, ◌-◌, length}
use Rattle.lists.specs.AtMost.{AtMost}
use Rattle.tree.proofs.Through.{Through}
use Rattle.silk.specs.PulseSyntax.{counts}
use Rattle.silk.specs.Inner.Pulses.{blocks_from}
use Rattle.pulse_counts_read.proofs.counts_run.Given as goal

abbrev pub invariant-loop-i : goal.invariant-loop-i
invariant-loop-i l = record {
  through : Through l.fn.r.packet.now l.fn.r.state (counts l.level l.n) (176 * l.i) (blocks_from l.counts l.lows 0 l.i) l.r.state
      (counts l.level (l.n - l.i));
  packet : l.r.packet ≡ l.fn.r.packet;
  size : length l.counts ≡ 20;
  size_lows : length l.lows ≡ 20;
  most : AtMost 16 l.counts;
  most_lows : AtMost 10 l.lows;
}
