-- What is left to settle is what was to settle at the start.
use Rattle.std.proofs.Common.{◌≡◌, ◌-◌, ◌^◌}
use Rattle.entcode.specs.Reader.{settled}
use Rattle.entdec_bytes.specs.Inner.{Turning}
use Rattle.entdec_bytes.proofs.ec_dec_normalize.Given as goal

abbrev pub invariant-loop-d : goal.invariant-loop-d
invariant-loop-d l = record {
  rest : settled l.packet l.d ≡ settled l.packet l.fn.from;
  turning : Turning l.packet l.d;
}

abbrev pub decreases-loop-d : goal.decreases-loop-d
decreases-loop-d l = 2 ^ 24 - l.d.rng
