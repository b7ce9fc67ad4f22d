-- The low bits of the places before this one are told.
use Rattle.std.proofs.Common.{◌/◌, ◌^◌}
use mathlib.Core.List.{map}
use lib.IntN.{nat_abs}
use Rattle.entcode.specs.Flat.{out}
use Rattle.silk.specs.PulseSyntax.{low_bits}
use Rattle.silk.proofs.PulseTold.{ToldTo}
use Rattle.pulse_lows_write.proofs.all_lows_tell.Given as goal

abbrev pub invariant-loop-k : goal.invariant-loop-k
invariant-loop-k l = ToldTo 0 (low_bits l.n) (λ m. m / 2 ^ l.n) 160 (out l.fn.buf l.fn.from) (map nat_abs l.pulses) (out l.buf l.w) l.k
