-- `index_spectrum_write::residuals_tell`: what is left to say, written from here, is what the whole is from the start. Assumes nothing.
use Rattle.std.proofs.Common.{◌-◌, ◌*◌}
use Rattle.entcode.specs.Flat.{out}
use Rattle.tree.specs.Inner.Told.{Midway}
use Rattle.silk.specs.IndexSyntax.{residuals}
use Rattle.index_spectrum_write.proofs.residuals_tell.Given as goal

abbrev pub invariant-loop-i : goal.invariant-loop-i
invariant-loop-i l =
    Midway (out l.fn.buf l.fn.w) l.x (residuals l.khz l.selectors l.n 0 l.x) (32 * l.i) (out l.buf l.q) l.x
    (residuals l.khz l.selectors (l.n - l.i) l.i l.x)
