-- `index_fields_pitch::pitch_ok_run` meets its contract. Assumes nothing.
use Rattle.std.proofs.Common.{w8}
use borrow.Author.Rules.{rules}
use mir.Syntax.{w16}
use mir.Val.{SFits}
use mir.Facts.{to_z-of_z}
use Rattle.deciding.proofs.Decides.{decides_as, decides_both}
use Rattle.index_fields_pitch.proofs.pitch_ok_run.Goals as goal

pub returns : goal.returns
returns c =
    let x = c.args.x in
    let l : SFits w16 x.lag = search rules in
    let o : SFits w8 x.contour = search rules in
    let p : SFits w8 x.period = search rules in
    let k : SFits w8 x.scale = search rules in
    decides_as
    (λ p. record {
      lag = p.0;
      contour = p.1.0;
      period = p.1.1.0.0;
      filters = p.1.1.0.1;
      scale = p.1.1.1.0;
      unscaled = p.1.1.1.1;
    })
    (λ w. (w.lag, (w.contour, ((w.period, w.filters), (w.scale, w.unscaled)))))
    (decides_both (rw (to_z-of_z l) at c.lag_ok.ensures) (λ q.
    decides_both (rw (to_z-of_z o) at c.contour_ok.ensures) (λ q.
    decides_both (rw (to_z-of_z p) at c.filters_ok-filters.ensures) (λ q.
    rw (to_z-of_z k) at c.scale_ok.ensures))))
