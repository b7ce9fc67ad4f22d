-- k low bits are told, and what is left to say is what the tree says from there.
use Rattle.std.proofs.Common.{◌*◌, ◌-◌, ℕ}
use Rattle.entcode.specs.Flat.{out}
use Rattle.tree.specs.Inner.Told.{Midway}
use Rattle.silk.specs.PulseSyntax.{Block, count_said, low_counts}
use Rattle.pulse_counts_write.proofs.later_tell.Given as goal

abbrev said : ℕ → ℕ → Block
said sum lows = record { count = sum; lows = lows }

abbrev pub invariant-loop-k : goal.invariant-loop-k
invariant-loop-k l =
    Midway (out l.fn.buf l.fn.from) (said l.sum l.lows) (low_counts 10 0 (count_said 0 (said l.sum l.lows))) (16 * l.k) (out l.buf l.w)
    (said l.sum l.lows)
    (low_counts (10 - l.k) l.k (count_said l.k (said l.sum l.lows)))
