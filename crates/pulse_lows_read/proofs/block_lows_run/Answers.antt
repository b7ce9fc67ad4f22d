-- A block without low bits keeps its magnitudes, and asks nothing.
use Rattle.std.proofs.Common.{◌≡◌, ℕ, arith}
use mathlib.Core.List.{List}
use lib.IntN.{ℤ}
use Rattle.entcode.specs.declared.Dec.{Dec}
use Rattle.entcode.specs.Inner.Reading.{Core}
use Rattle.silk.specs.PulseSyntax.{each, low_bits}
use Rattle.silk.specs.Inner.Pulses.{Placed, mags, Natural}
use Rattle.silk.proofs.PulseSteps.{no_lows}
use Rattle.pulse_lows_read.proofs.block_lows_run.Goals as goal

none : (b : List ℕ) (d : Dec) (n : ℕ) (s : List ℤ) → n ≡ 0 → Core b d → Natural s → Placed b d (each 0 (low_bits n) (mags s)) 2560 s d
none b d n s e c h =
    record {
      values = mags s;
      ran = rw e (record { is = no_lows b d (mags s); core = c; least = omega arith; most = omega arith });
      is = h;
    }

pub returns-else-n-ne0-clause-placed : goal.returns-else-n-ne0-clause-placed
returns-else-n-ne0-clause-placed c = none _ _ c.args.n c.args.places.now (omega arith) c.args.r.now.core c.requires.natural.0
