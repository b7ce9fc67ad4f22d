-- `index_filters_read::filter_indices` meets its contract. Assumes nothing.
use Rattle.std.proofs.Common.{sym, ◌∙◌, arith}
use Rattle.silk.proofs.IndexRows.{subframes_most}
use Rattle.silk.proofs.IndexSteps.{symbol_is, filters_end, filters_next}
use Rattle.index_layout.proofs.FilterSizes.{filters_most}
use Rattle.index_filters_read.proofs.filter_indices.Goals as goal

pub symbol_run-requires-clause-total_bound : goal.symbol_run-requires-clause-total_bound
symbol_run-requires-clause-total_bound c = omega (arith, subframes_most c.requires.p_bound.1)

pub bounds-x-k : goal.bounds-x-k
bounds-x-k c = omega (arith, subframes_most c.requires.p_bound.1)

pub overflow_cast-x : goal.overflow_cast-x
overflow_cast-x c = omega (arith, c.symbol_run.ensures.took.inside, filters_most c.args.p c.requires.p_bound.0)

pub loop-k-preserved : goal.loop-k-preserved
loop-k-preserved c =
    let l = c.loop-k in
    let a = c.symbol_run in
    let t = c.filter_row_run-row.ensures in
    let q = rw l.invariant.packet at a.ensures.took in
    rw (symbol_is t q (omega (arith, filters_most c.args.p c.requires.p_bound.0)))
    (record {
      rest = filters_next _ l.r.state _ l.k l.x c.args.p _ _ t.is q (omega arith) ∙ l.invariant.rest;
      packet = a.ensures.packet ∙ l.invariant.packet;
      least = omega (arith, q.least);
      most = omega (arith, q.most);
    })

pub returns : goal.returns
returns c =
    let i = c.loop-k.invariant in
    record {
      is = sym i.rest ∙ filters_end _ _ _ _ _ _ (omega arith);
      packet = i.packet;
      least = i.least;
      most = omega (arith, subframes_most c.requires.p_bound.1);
    }
