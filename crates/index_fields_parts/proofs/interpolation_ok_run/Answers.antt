-- `index_fields_parts::interpolation_ok_run` meets its contract. Assumes nothing.
use Rattle.std.proofs.Common.{w8, arith}
use borrow.Author.Tests.{eqb-true, eqb-false}
use mir.Facts.{to_z-of_z}
use Rattle.silk.proofs.IndexRows.{only_two}
use Rattle.index_decides.proofs.Tested.{equal_tested, fixed_tested}
use Rattle.index_fields_parts.proofs.interpolation_ok_run.Goals as goal

pub returns : goal.returns
returns c =
    rw (to_z-of_z c.ranges.interp)
    (fixed_tested 4 4 c.args.interp
    (λ e q. absurd (omega (arith, eqb-true c.args.subframes 4 e)))
    (λ e. only_two c.requires (eqb-false c.args.subframes 4 e))
    (equal_tested {w = w8} 4 c.args.interp c.ranges.interp (omega arith)))
