-- A side-index record with whole arrays changed. Assumes nothing.
use Prim.Native.Nat.{ℕ}
use lib.IntN.{pos}
use Rattle.silk.specs.declared.Indices.{Indices}
use Rattle.silk.specs.Record.{put_interp, put_scale}

-- ---- one number, or the two of the type, which a reader gives as naturals

abbrev pub with_interp : Indices → ℕ → Indices
with_interp x v = put_interp x (pos v)

abbrev pub with_scale : Indices → ℕ → Indices
with_scale x v = put_scale x (pos v)
