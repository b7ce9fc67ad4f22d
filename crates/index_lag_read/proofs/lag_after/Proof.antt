-- `index_lag_read::lag_after` meets its contract: the symbol less 9, added in 16 bits. Assumes nothing.
use mathlib.Core.Path.{◌≡◌, ap, ◌∙◌}
use native.Mathlib.Omega.{arith}
use Prim.Native.Nat.{ℕ, ◌<◌}
use borrow.Author.Rules.{rules, sfits_of}
use lib.IntN.{pos, ◌-ℤ◌}
use mir.Syntax.{w16}
use mir.Val.{SFits, to_z}
use mir.Facts.{to_z-of_z, to_z_pos}
use Rattle.ints.proofs.Sums.{up_diff, down_diff}
use Rattle.ints.proofs.Widths.{parts_fit}
use Rattle.ints.specs.Wrap.{wrap16}
use Rattle.index_lag_read.proofs.lag_after.Statement.{statement}
use Rattle.index_lag_read.proofs.lag_after.Tie as tie

module _ (v : ℕ) (h : v < 21) where
  symbol_is : to_z w16 v ≡ pos v
  symbol_is = to_z_pos w16 {n = v} (omega arith)

  delta_fits : SFits w16 (pos v -ℤ pos 9)
  delta_fits = parts_fit (pos v -ℤ pos 9) (omega (arith, up_diff (pos v) (pos 9))) (omega (arith, down_diff (pos v) (pos 9)))

sub_delta : tie.Need-overflow_sub-delta
sub_delta c = rw (symbol_is c.args.v c.requires) (delta_fits c.args.v c.requires)

returns : tie.Need-returns
returns c =
    let z = c.before in
    let e = symbol_is z.args.v z.requires in
    let f = to_z-of_z (delta_fits z.args.v z.requires) in
    to_z-of_z {w = w16} (sfits_of c.add16.type_inv) ∙ c.add16.ensures ∙ ap wrap16 (rw (to_z-of_z z.ranges.before, e, f))

pub lag_after_spec : {M : Type 1} → statement M
lag_after_spec = tie.close (tie.spec (λ c. search rules) sub_delta (λ c κs. search rules) returns)
