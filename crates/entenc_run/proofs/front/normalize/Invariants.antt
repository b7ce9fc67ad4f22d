-- What the turns left to do make of the state is what all of them do.
use Rattle.std.proofs.Common.{◌≡◌, ◌-◌, ◌^◌, ◌≤◌}
use Rattle.entcode.specs.Flat.{out}
use Rattle.entcode.specs.Inner.Writing.{Ready, settled}
use Rattle.entenc_run.proofs.front.normalize.Given as goal

abbrev pub invariant-loop-w : goal.invariant-loop-w
invariant-loop-w l = record {
  rest : settled (out l.buf l.w) ≡ settled (out l.fn.buf l.fn.from);
  ready : Ready (out l.buf l.w);
  some : 256 ≤ l.w.rng;
}

abbrev pub decreases-loop-w : goal.decreases-loop-w
decreases-loop-w l = 2 ^ 24 - l.w.rng
