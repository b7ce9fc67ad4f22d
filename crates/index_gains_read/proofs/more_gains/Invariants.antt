-- `index_gains_read::more_gains`: the rest of the tree, run from here, gives what the whole gives from the start. Assumes nothing.
use Rattle.std.proofs.Common.{◌≡◌, ◌+◌, ◌-◌, ◌*◌, ◌≤◌}
use Rattle.tree.specs.Asks.{run}
use Rattle.silk.specs.IndexSyntax.{more_gains}
use Rattle.index_gains_read.proofs.more_gains.Given as goal

abbrev pub invariant-loop-k : goal.invariant-loop-k
invariant-loop-k l = record {
  rest : run l.initial.r.packet.now l.r.state (more_gains (l.n - l.k) l.k l.x)
      ≡ run l.initial.r.packet.now l.initial.r.state (more_gains (l.n - 1) 1 l.initial.x);
  packet : l.r.packet ≡ l.initial.r.packet;
  least : l.initial.r.state.total ≤ l.r.state.total;
  most : l.r.state.total + 16 ≤ l.initial.r.state.total + 16 * l.k;
}
