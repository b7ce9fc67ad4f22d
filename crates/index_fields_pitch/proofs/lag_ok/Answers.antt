-- `index_fields_pitch::lag_ok` meets its contract. Assumes nothing.
use Rattle.std.proofs.Common.{ℕ, ◌≡◌, ◌-◌, ◌*◌, ◌≤◌, pos, to_z, arith}
use mir.Syntax.{w16}
use mir.Facts.{to_z-of_z, to_z_pos}
use Rattle.deciding.specs.Inner.{Decides}
use Rattle.ranges.specs.InRange.{in_range}
use Rattle.silk.specs.Inner.Indices.{Upto, Rate, eight, twelve, sixteen}
use Rattle.index_decides.proofs.Tested.{upto_tested}
use Rattle.index_fields_pitch.proofs.lag_ok.Goals as goal

rate_bounds : {khz : ℕ} → Rate khz → (8 ≤ khz) × (khz ≤ 16)
rate_bounds eight = (omega arith, omega arith)
rate_bounds twelve = (omega arith, omega arith)
rate_bounds sixteen = (omega arith, omega arith)

pub overflow_mul-most : goal.overflow_mul-most
overflow_mul-most c = omega (arith, rate_bounds c.requires)

pub overflow_sub-most : goal.overflow_sub-most
overflow_sub-most c = omega (arith, rate_bounds c.requires)

pub overflow_cast-most : goal.overflow_cast-most
overflow_cast-most c = omega (arith, rate_bounds c.requires)

pub returns : goal.returns
returns c =
    let m = 16 * c.args.khz - 1 in
    let e : to_z w16 m ≡ pos m = to_z_pos w16 {n = m} (omega (arith, rate_bounds c.requires)) in
    let t : Decides (in_range (pos 0) (to_z w16 m) c.args.lag) (Upto m c.args.lag) = rw e (upto_tested m c.args.lag) in
    rw (to_z-of_z c.ranges.lag) t
