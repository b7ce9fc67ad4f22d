-- `index_fields::fields_ok_run` meets its contract. Assumes nothing.
use Rattle.std.proofs.Common.{w8}
use borrow.Author.Rules.{rules}
use mir.Val.{SFits}
use mir.Facts.{to_z-of_z}
use Rattle.deciding.proofs.Decides.{decides_as, decides_both}
use Rattle.index_decides.proofs.Tested.{upto_tested}
use Rattle.index_fields.proofs.fields_ok_run.Goals as goal

pub returns : goal.returns
returns c =
    let i : SFits w8 c.args.x.interp = search rules in
    let d : SFits w8 c.args.x.seed = search rules in
    rw (to_z-of_z d)
    (decides_as
    (λ p. record {
      kind = p.0;
      gains = p.1.0;
      spectrum = p.1.1.0;
      interp = p.1.1.1.0.0;
      fixed = p.1.1.1.0.1;
      pitch = p.1.1.1.1.0;
      seed = p.1.1.1.1.1;
    })
    (λ w. (w.kind, (w.gains, (w.spectrum, ((w.interp, w.fixed), (w.pitch, w.seed))))))
    (decides_both c.kind_ok_run.ensures (λ k.
    decides_both c.gains_ok_run.ensures (λ g.
    decides_both c.spectrum_ok.ensures (λ q.
    decides_both (rw (to_z-of_z i) at c.interpolation_ok_run.ensures) (λ p.
    decides_both c.voicing_ok.ensures (λ v. upto_tested 3 c.args.x.seed)))))))
