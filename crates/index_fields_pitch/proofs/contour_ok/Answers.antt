-- `index_fields_pitch::contour_ok` meets its contract. Assumes nothing.
use Rattle.std.proofs.Common.{ℕ, ◌≡◌, ◌-◌, ◌≤◌, eqb, pos, to_z, w8, arith}
use mir.Facts.{to_z-of_z, to_z_pos}
use Rattle.deciding.proofs.Choice.{chosen}
use Rattle.silk.specs.Inner.Indices.{contour_size}
use Rattle.index_decides.proofs.Tested.{upto_tested}
use Rattle.index_fields_pitch.proofs.contour_ok.Goals as goal

-- a row of a contour has 3 to 34 entries
size_bounds : (khz subframes : ℕ) → (1 ≤ contour_size khz subframes) × (contour_size khz subframes ≤ 34)
unfolding contour_size
size_bounds khz subframes =
    chosen (λ (n : ℕ). (1 ≤ n) × (n ≤ 34)) (eqb khz 8)
    (λ e. chosen (λ (n : ℕ). (1 ≤ n) × (n ≤ 34)) (eqb subframes 2) (λ f. (omega arith, omega arith)) (λ f. (omega arith, omega arith)))
    (λ e. chosen (λ (n : ℕ). (1 ≤ n) × (n ≤ 34)) (eqb subframes 2) (λ f. (omega arith, omega arith)) (λ f. (omega arith, omega arith)))

pub overflow_sub-most : goal.overflow_sub-most
overflow_sub-most c = omega (arith, c.contour_size.ensures, size_bounds c.args.khz c.args.subframes)

pub overflow_cast-most : goal.overflow_cast-most
overflow_cast-most c = omega (arith, c.contour_size.ensures, size_bounds c.args.khz c.args.subframes)

pub returns : goal.returns
returns c =
    let m = contour_size c.args.khz c.args.subframes - 1 in
    let e : to_z w8 m ≡ pos m = to_z_pos w8 {n = m} (omega (arith, size_bounds c.args.khz c.args.subframes)) in
    rw (to_z-of_z c.ranges.contour, c.contour_size.ensures, e) (upto_tested m c.args.contour)
