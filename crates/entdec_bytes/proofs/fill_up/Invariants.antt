-- What is left to fetch is what was to fetch at the start.
use Rattle.std.proofs.Common.{◌≡◌, ◌-◌, ◌/◌}
use Rattle.entcode.specs.Reader.{fetches}
use Rattle.entdec_bytes.specs.Inner.{Windowed}
use Rattle.entdec_bytes.proofs.fill_up.Given as goal

abbrev pub invariant-loop-d : goal.invariant-loop-d
invariant-loop-d l = record {
  rest : fetches l.packet ((32 - l.d.wbits) / 8) l.d ≡ fetches l.packet ((32 - l.fn.from.wbits) / 8) l.fn.from;
  windowed : Windowed l.packet l.d;
}

abbrev pub decreases-loop-d : goal.decreases-loop-d
decreases-loop-d l = 25 - l.d.wbits
