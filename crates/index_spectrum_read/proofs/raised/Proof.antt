-- `index_spectrum_read::raised` meets its contract. Assumes nothing.
use borrow.Author.Rules.{rules}
use Prim.Native.Nat.{◌+◌}
use native.Mathlib.Omega.{arith}
use mir.Syntax.{w8}
use mir.Facts.{to_z_pos}
use Rattle.index_spectrum_read.proofs.raised.Statement.{statement}
use Rattle.index_spectrum_read.proofs.raised.Tie as tie

returns : tie.Need-returns
returns c = to_z_pos w8 {n = 4 + c.args.extension} (omega (arith, c.requires))

pub raised_spec : {M : Type 1} → statement M
raised_spec = tie.close (tie.spec (λ c. search rules) (λ c. search rules) returns)
