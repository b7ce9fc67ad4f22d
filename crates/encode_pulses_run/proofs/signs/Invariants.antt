-- The signs of the blocks before this one are written.
use Rattle.std.proofs.Common.{◌≡◌, length}
use Rattle.entcode.specs.Flat.{out}
use Rattle.silk.proofs.PulseTelling.{SignsTelling}
use Rattle.encode_pulses_run.proofs.signs.Given as goal

abbrev pub invariant-loop-i : goal.invariant-loop-i
invariant-loop-i l =
    SignsTelling (out l.fn.buf l.fn.from) l.x.counts l.x.lows l.pulses l.f.blocks l.f.signal l.f.offset (out l.buf l.w) l.i
    × (length l.buf ≡ length l.fn.buf)
