-- `index_pitch_read::pitch_run` meets its contract: lag, contour, filters, scale. Assumes nothing.
use Rattle.std.proofs.Common.{rules}
use mir.Syntax.{w16}
use mir.Val.{SFits}
use mir.Facts.{to_z-of_z}
use Rattle.symbol_reader.proofs.AlongLaws.{along_bind}
use Rattle.silk.specs.IndexSyntax.{pitch}
use Rattle.index_pitch_read.proofs.pitch_run.Goals as goal

pub returns : goal.returns
unfolding pitch
returns c =
    let f : SFits w16 c.args.s.prevlag = search rules in
    along_bind _ (rw (to_z-of_z f) at c.lag_index_run.ensures)
    (along_bind _ c.contour_index_run.ensures (along_bind _ c.period_index_run.ensures c.scale_index_run.ensures))
