-- i blocks are told, and what is left to say is what the blocks behind them say.
use Rattle.std.proofs.Common.{◌*◌, ◌-◌}
use Rattle.entcode.specs.Flat.{out}
use Rattle.tree.specs.Inner.Told.{Midway}
use Rattle.silk.specs.PulseSyntax.{counts}
use Rattle.silk.specs.Inner.Pulses.{blocks_from}
use Rattle.pulse_counts_write.proofs.counts_tell_run.Given as goal

abbrev pub invariant-loop-i : goal.invariant-loop-i
invariant-loop-i l =
    Midway (out l.fn.buf l.fn.from) (blocks_from l.sums l.lows 0 l.n) (counts l.level l.n) (176 * l.i) (out l.buf l.w)
    (blocks_from l.sums l.lows l.i (l.n - l.i))
    (counts l.level (l.n - l.i))
