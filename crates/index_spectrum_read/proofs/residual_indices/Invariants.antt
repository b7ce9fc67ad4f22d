-- `index_spectrum_read::residual_indices`: the rest of the tree, run from here, gives what the whole gives from the start. Assumes nothing.
use Rattle.std.proofs.Common.{◌≡◌, ◌+◌, ◌-◌, ◌*◌, ◌≤◌}
use Rattle.tree.specs.Asks.{run}
use Rattle.silk.specs.IndexSyntax.{residuals}
use Rattle.index_spectrum_read.proofs.residual_indices.Given as goal

abbrev pub invariant-loop-i : goal.invariant-loop-i
invariant-loop-i l = record {
  rest : run l.initial.r.packet.now l.r.state (residuals l.khz l.selectors (l.n - l.i) l.i l.x)
      ≡ run l.initial.r.packet.now l.initial.r.state (residuals l.khz l.selectors l.n 0 l.initial.x);
  packet : l.r.packet ≡ l.initial.r.packet;
  least : l.initial.r.state.total ≤ l.r.state.total;
  most : l.r.state.total ≤ l.initial.r.state.total + 32 * l.i;
}
