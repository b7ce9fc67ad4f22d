-- The fields of a record that may be written: each that this frame codes lies in its range, whatever frame was before
-- (document 01, "Side indices"). Assumes nothing.
use Prim.Native.Nat.{◌-◌, ◌*◌}
use mathlib.Core.Path.{◌≡◌}
use lib.IntN.{pos}
use Rattle.silk.specs.declared.Indices.{Indices}
use Rattle.silk.specs.declared.Setting.{Setting}
use Rattle.silk.specs.Inner.Indices.{Upto, Writes}
use Rattle.silk.proofs.IndexRanges.{InRange}
use Rattle.silk.proofs.IndexSays.{writes_gains, writes_spectrum, writes_pitch}

-- the ranges that a reader gives are these, but for the lag: the writer's is absolute
pub range_writes : (s : Setting) (x : Indices) → InRange s x → (x.signal ≡ pos 2 → Upto (16 * s.khz - 1) x.lag) → Writes s x
range_writes s x r l =
    record {
      kind = record { kind = r.kind; signal = r.signal; offset = r.offset };
      gains = writes_gains r;
      spectrum = writes_spectrum r;
      interp = r.interp;
      fixed = r.fixed;
      pitch = λ v. writes_pitch (r.voiced v) (l v);
      seed = r.seed;
    }
