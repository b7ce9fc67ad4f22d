-- `index_spectrum_read::residual_indices` meets its contract. Assumes nothing.
use Rattle.std.proofs.Common.{◌≡◌, sym, ◌∙◌, w8, arith}
use borrow.Author.Rules.{rules}
use mir.Val.{SFits}
use mir.Facts.{to_z-of_z}
use Rattle.sheet.specs.Directory.{residual_row}
use Rattle.tree.specs.Asks.{run, got}
use Rattle.silk.specs.IndexSyntax.{residual_pick, residual}
use Rattle.silk.proofs.IndexRows.{rate_most}
use Rattle.silk.proofs.IndexSteps.{residuals_end, residuals_next}
use Rattle.index_spectrum_read.proofs.residual_indices.Goals as goal

pub overflow_mul-base : goal.overflow_mul-base
overflow_mul-base c = omega (arith, rate_most c.requires.rate.0)

pub residual_pick_run-k-requires : goal.residual_pick_run-k-requires
residual_pick_run-k-requires c = omega (arith, c.requires.rate.1)

pub overflow_add-base : goal.overflow_add-base
overflow_add-base c = omega (arith, rate_most c.requires.rate.0, c.residual_pick_run-k.ensures)

pub residual_index-requires-clause-k_bound : goal.residual_index-requires-clause-k_bound
residual_index-requires-clause-k_bound c = omega (arith, rate_most c.requires.rate.0, c.residual_pick_run-k.ensures)

pub loop-i-preserved : goal.loop-i-preserved
loop-i-preserved c =
    let l = c.loop-i in
    let a = c.residual_index in
    let t = residual (residual_row c.args.khz (residual_pick c.args.selectors.now l.i)) in
    let e : run c.args.r.now.packet.now l.r.state t ≡ got a.result a.new.r.state =
    rw (l.invariant.packet, c.residual_pick_run-k.ensures) at a.ensures.is in
    let f : SFits w8 a.result = search rules in
    rw (to_z-of_z f)
    (record {
      rest = residuals_next _ l.r.state _ l.i l.x _ _ a.result _ (omega arith) e ∙ l.invariant.rest;
      packet = a.ensures.packet ∙ l.invariant.packet;
      least = omega (arith, a.ensures.least);
      most = omega (arith, a.ensures.most);
    })

pub returns : goal.returns
returns c =
    let i = c.loop-i.invariant in
    record {
      is = sym i.rest ∙ residuals_end _ _ _ _ _ _ _ (omega arith);
      packet = i.packet;
      least = i.least;
      most = omega (arith, c.requires.rate.2);
    }
