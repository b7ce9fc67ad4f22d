-- `index_fields_parts::spectrum_ok` meets its contract. Assumes nothing.
use Rattle.std.proofs.Common.{get_or, pos, w8}
use borrow.Author.Rules.{rules}
use mir.Val.{SFits}
use mir.Facts.{to_z-of_z}
use Rattle.deciding.proofs.Decides.{decides_as, decides_both}
use Rattle.index_decides.proofs.Tested.{upto_tested}
use Rattle.index_fields_parts.proofs.spectrum_ok.Goals as goal

pub returns : goal.returns
returns c =
    let first = get_or c.args.x.nlsf 0 (pos 0) in
    let f : SFits w8 first = search rules in
    rw (to_z-of_z f)
    (decides_as (λ p. record { index = p.0; residuals = p.1 }) (λ w. (w.index, w.residuals))
    (decides_both (upto_tested 31 first) (λ p. c.residuals_ok.ensures)))
