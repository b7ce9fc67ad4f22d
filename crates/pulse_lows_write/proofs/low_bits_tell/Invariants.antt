-- All but k low bits are told.
use Rattle.std.proofs.Common.{◌-◌, ◌*◌, ◌/◌, ◌^◌}
use Rattle.entcode.specs.Flat.{out}
use Rattle.tree.specs.Inner.Told.{Midway}
use Rattle.silk.specs.PulseSyntax.{low_bits}
use Rattle.pulse_lows_write.proofs.low_bits_tell.Given as goal

abbrev pub invariant-loop-k : goal.invariant-loop-k
invariant-loop-k l =
    Midway (out l.fn.buf l.fn.from) l.m (low_bits l.n (l.m / 2 ^ l.n)) (16 * (l.n - l.k)) (out l.buf l.w) l.m (low_bits l.k (l.m / 2 ^ l.k))
