-- `residual` meets its contract. Assumes nothing.
use mathlib.Core.Path.{◌≡◌}
use native.Mathlib.Omega.{arith}
use borrow.Author.Rules.{rules, sfits_of}
use lib.IntN.{◌+ℤ◌}
use mir.Syntax.{w32}
use mir.Val.{SFits, to_z, of_z}
use mir.Facts.{to_z-of_z}
use Rattle.ints.proofs.Sums.{up_sum, down_sum}
use Rattle.ints.proofs.Widths.{parts_fit}
use Rattle.spectrum.proofs.ResidualBounds.{scaled_within, predicted_within}
use Rattle.spectrum.specs.Residuals.{scaled, predicted}
use Rattle.nlsf_places.proofs.residual.Statement.{statement}
use Rattle.nlsf_places.proofs.residual.Tie as tie

fits : (c : tie.Start) → SFits w32 (predicted c.args.p c.args.behind +ℤ scaled c.args.step c.args.x)
fits c =
    let a = predicted_within c.args.p c.args.behind 29200 (omega arith) c.requires.1 in
    let b = scaled_within c.args.step c.args.x c.requires.0.1 c.requires.0.0 in
    let s = predicted c.args.p c.args.behind in
    let t = scaled c.args.step c.args.x in
    parts_fit (s +ℤ t) (omega (arith, up_sum s t, a.0, b.0)) (omega (arith, down_sum s t, a.1, b.1))

-- what the machine adds
sums : (c : tie.After-scale) → to_z w32 (of_z w32 c.predict.result) +ℤ to_z w32 (of_z w32 c.scale.result)
    ≡ predicted c.args.p c.args.behind +ℤ scaled c.args.step
    c.args.x
sums c =
    let a = c.args in
    let f = c.ranges in
    let e : c.predict.result ≡ predicted a.p a.behind = rw (to_z-of_z f.behind) at c.predict.ensures in
    let g : c.scale.result ≡ scaled a.step a.x = rw (to_z-of_z f.x) at c.scale.ensures in
    rw (to_z-of_z {w = w32} (sfits_of c.predict.type_inv), to_z-of_z {w = w32} (sfits_of c.scale.type_inv), e, g)

add_result : tie.Need-overflow_add-result
add_result c = rw (sums c) (fits c.before.before)

returns : tie.Need-returns
returns c = rw (sums c) (to_z-of_z (fits c.before.before))

pub residual_spec : {M : Type 1} → statement M
residual_spec = tie.close (tie.spec (λ c κs. search rules) (λ c κs. search rules) add_result returns)
