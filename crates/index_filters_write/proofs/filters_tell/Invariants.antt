-- `index_filters_write::filters_tell`: what is left to say, written from here, is what the whole is from the start. Assumes nothing.
use Rattle.std.proofs.Common.{◌-◌, ◌*◌}
use Rattle.entcode.specs.Flat.{out}
use Rattle.tree.specs.Inner.Told.{Midway}
use Rattle.silk.specs.IndexSyntax.{filters}
use Rattle.index_filters_write.proofs.filters_tell.Given as goal

abbrev pub invariant-loop-k : goal.invariant-loop-k
invariant-loop-k l =
    Midway (out l.fn.buf l.fn.w) l.x (filters l.p l.n 0 l.x) (16 * l.k) (out l.buf l.q) l.x (filters l.p (l.n - l.k) l.k l.x)
