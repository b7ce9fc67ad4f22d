-- The splits of the blocks before this one are written.
use Rattle.std.proofs.Common.{◌≡◌, length}
use Rattle.entcode.specs.Flat.{out}
use Rattle.silk.proofs.PulseTelling.{SplitsTelling}
use Rattle.encode_pulses_run.proofs.splits.Given as goal

abbrev pub invariant-loop-i : goal.invariant-loop-i
invariant-loop-i l =
    SplitsTelling (out l.fn.buf l.fn.from) l.x.counts l.x.lows l.pulses l.n (out l.buf l.w) l.i
    × (length l.buf ≡ length l.fn.buf)
