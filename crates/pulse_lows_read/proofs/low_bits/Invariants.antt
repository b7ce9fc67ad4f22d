-- The rest of the tree, run from here, gives what the whole gives from the start.
use Rattle.std.proofs.Common.{◌-◌, ◌*◌, ◌^◌, ◌<◌}
use Rattle.silk.specs.PulseSyntax.{low_bits}
use Rattle.symbol_reader.specs.Inner.{Midway}
use Rattle.pulse_lows_read.proofs.low_bits.Given as goal

abbrev pub invariant-loop : goal.invariant-loop
invariant-loop l = record {
  midway : Midway l.fn.r (low_bits l.n l.m) (16 * l.counter) l.r (low_bits (l.n - l.counter) l.v);
  small : l.v < 17 * 2 ^ l.counter;
}
