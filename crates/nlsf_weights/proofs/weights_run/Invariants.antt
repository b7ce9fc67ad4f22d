-- From i on stand the weights, and q is the share before them. Assumes nothing.
use Rattle.std.proofs.Common.{◌≡◌, drop, length}
use Rattle.sheet.specs.Weights.{weights_of}
use Rattle.nlsf_weights.specs.Inner.{share_at}
use Rattle.nlsf_weights.proofs.weights_run.Given as goal

abbrev pub invariant-loop-i : goal.invariant-loop-i
invariant-loop-i l = record {
  long : length l.weights ≡ length l.values;
  done : drop l.i l.weights ≡ drop l.i (weights_of l.values);
  before : l.q ≡ share_at l.values l.i;
}
