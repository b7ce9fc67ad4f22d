-- `index_fields_pitch::scale_ok` meets its contract. Assumes nothing.
use Rattle.std.proofs.Common.{w8, arith}
use borrow.Author.Tests.{eqb-true, eqb-false}
use mir.Facts.{to_z-of_z}
use Rattle.index_decides.proofs.Tested.{equal_tested, fixed_tested}
use Rattle.index_fields_pitch.proofs.scale_ok.Goals as goal

pub returns : goal.returns
returns c =
    rw (to_z-of_z c.ranges.scale)
    (fixed_tested 2 0 c.args.scale
    (λ e q. q (eqb-true c.args.mode 0 e))
    (λ e. eqb-false c.args.mode 0 e)
    (equal_tested {w = w8} 0 c.args.scale c.ranges.scale (omega arith)))
