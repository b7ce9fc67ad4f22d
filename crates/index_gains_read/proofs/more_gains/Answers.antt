-- `index_gains_read::more_gains` meets its contract. Assumes nothing.
use Rattle.std.proofs.Common.{sym, ◌∙◌, arith}
use Rattle.silk.proofs.IndexRows.{subframes_most, subframes_least}
use Rattle.silk.proofs.IndexSteps.{symbol_is, gains_end, gains_next}
use Rattle.index_gains_read.proofs.more_gains.Goals as goal

pub symbol_run-requires-clause-total_bound : goal.symbol_run-requires-clause-total_bound
symbol_run-requires-clause-total_bound c = omega (arith, subframes_most c.requires.subframes)

pub bounds-x-k : goal.bounds-x-k
bounds-x-k c = omega (arith, subframes_most c.requires.subframes)

pub loop-k-preserved : goal.loop-k-preserved
loop-k-preserved c =
    let l = c.loop-k in
    let a = c.symbol_run in
    let t = c.delta_gain_row_run.ensures in
    let q = rw l.invariant.packet at a.ensures.took in
    rw (symbol_is t q (omega arith))
    (record {
      rest = gains_next _ l.r.state _ l.k l.x _ _ t.is q (omega arith) ∙ l.invariant.rest;
      packet = a.ensures.packet ∙ l.invariant.packet;
      least = omega (arith, q.least);
      most = omega (arith, q.most);
    })

pub returns : goal.returns
returns c =
    let i = c.loop-k.invariant in
    let n = c.requires.subframes in
    record {
      is = sym i.rest ∙ gains_end _ _ _ _ _ (omega arith);
      packet = i.packet;
      least = i.least;
      most = omega (arith, subframes_most n, subframes_least n);
    }
