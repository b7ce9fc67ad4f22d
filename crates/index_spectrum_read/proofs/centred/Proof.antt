-- `index_spectrum_read::centred` meets its contract. Assumes nothing.
use borrow.Author.Rules.{rules}
use Prim.Native.Nat.{ℕ, ◌<◌}
use mathlib.Core.Path.{◌≡◌}
use native.Mathlib.Omega.{arith}
use lib.IntN.{pos, ◌-ℤ◌}
use mir.Syntax.{w8}
use mir.Val.{SFits, to_z}
use mir.Facts.{to_z-of_z, to_z_pos}
use Rattle.ints.proofs.Sums.{up_diff, down_diff}
use Rattle.ints.proofs.Widths.{parts_fit}
use Rattle.index_spectrum_read.proofs.centred.Statement.{statement}
use Rattle.index_spectrum_read.proofs.centred.Tie as tie

module _ (v : ℕ) (h : v < 9) where
  symbol_is : to_z w8 v ≡ pos v
  symbol_is = to_z_pos w8 {n = v} (omega arith)

  fits : SFits w8 (pos v -ℤ pos 4)
  fits = parts_fit (pos v -ℤ pos 4) (omega (arith, up_diff (pos v) (pos 4))) (omega (arith, down_diff (pos v) (pos 4)))

sub_result : tie.Need-overflow_sub-result
sub_result c = rw (symbol_is c.args.v c.requires) (fits c.args.v c.requires)

returns : tie.Need-returns
returns c = rw (symbol_is c.args.v c.requires, to_z-of_z (fits c.args.v c.requires))

pub centred_spec : {M : Type 1} → statement M
centred_spec = tie.close (tie.spec (λ c. search rules) sub_result returns)
