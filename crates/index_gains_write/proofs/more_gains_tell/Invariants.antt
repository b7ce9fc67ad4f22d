-- `index_gains_write::more_gains_tell`: what is left to say, written from here, is what the whole is from the start. Assumes nothing.
use Rattle.std.proofs.Common.{◌-◌, ◌*◌}
use Rattle.entcode.specs.Flat.{out}
use Rattle.tree.specs.Inner.Told.{Midway}
use Rattle.silk.specs.IndexSyntax.{more_gains}
use Rattle.index_gains_write.proofs.more_gains_tell.Given as goal

abbrev pub invariant-loop-k : goal.invariant-loop-k
invariant-loop-k l =
    Midway (out l.fn.buf l.fn.w) l.x (more_gains (l.n - 1) 1 l.x) (16 * (l.k - 1)) (out l.buf l.q) l.x (more_gains (l.n - l.k) l.k l.x)
