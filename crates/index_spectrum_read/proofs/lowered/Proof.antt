-- `index_spectrum_read::lowered` meets its contract. Assumes nothing.
use borrow.Author.Rules.{rules}
use Prim.Native.Nat.{ℕ, ◌+◌, ◌<◌}
use mathlib.Core.Path.{◌≡◌}
use native.Mathlib.Omega.{arith}
use lib.IntN.{pos, negsuc, ◌-ℤ◌}
use mir.Syntax.{w8}
use mir.Val.{SFits, to_z}
use mir.Facts.{to_z-of_z, to_z_pos}
use Rattle.ints.proofs.Sums.{diff_parts}
use Rattle.ints.proofs.Order.{parts_same}
use Rattle.ints.proofs.Widths.{parts_fit}
use Rattle.index_spectrum_read.proofs.lowered.Statement.{statement}
use Rattle.index_spectrum_read.proofs.lowered.Tie as tie

module _ (e : ℕ) (h : e < 7) where
  symbol_is : to_z w8 e ≡ pos e
  symbol_is = to_z_pos w8 {n = e} (omega arith)

  lower_is : negsuc 3 -ℤ pos e ≡ negsuc (3 + e)
  lower_is = parts_same (negsuc 3 -ℤ pos e) (negsuc (3 + e)) (omega (arith, diff_parts (negsuc 3) (pos e)))

  fits : SFits w8 (negsuc (3 + e))
  fits = parts_fit (negsuc (3 + e)) (omega arith) (omega arith)

sub_result : tie.Need-overflow_sub-result
sub_result c = rw (symbol_is c.args.extension c.requires, lower_is c.args.extension c.requires) (fits c.args.extension c.requires)

returns : tie.Need-returns
returns c =
    rw (symbol_is c.args.extension c.requires, lower_is c.args.extension c.requires, to_z-of_z (fits c.args.extension c.requires))

pub lowered_spec : {M : Type 1} → statement M
lowered_spec = tie.close (tie.spec (λ c. search rules) sub_result returns)
