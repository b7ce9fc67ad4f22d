-- What a turn of renormalising keeps, and that a cut may be renormalised. Assumes nothing.
use Rattle.std.proofs.Common.{ℕ, ◌^◌, ◌<◌, ◌≤◌, List, arith}
use Rattle.entcode.specs.declared.Dec.{Dec}
use Rattle.entcode.specs.Reader.{byte_at, shift_r}
use Rattle.entdec_bytes.specs.Inner.{Turning}

pub turn_on : (b : List ℕ) (d : Dec) → byte_at b d.offs < 256 → Turning b d → d.rng ≤ 2 ^ 23 → Turning b (shift_r b d)
turn_on b d y h l = omega arith
