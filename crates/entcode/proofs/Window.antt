-- Bits that join a window of 32. Assumes nothing.
use Prim.Native.Nat.{ℕ, ◌+◌, ◌*◌, ◌%◌, ◌^◌, ◌≤◌, ◌<◌}
use mathlib.Core.Path.{◌≡◌}
use native.Mathlib.Omega.{arith}
use lib.Pow.{shl_exact, pow_mono}
use Rattle.entcode.proofs.TailLaws.{append_slim}

-- n bits of value v above a window lose nothing by the shift, nor does their sum
pub window_sum : (x v u n : ℕ) → x < 2 ^ u → v < 2 ^ n → u + n ≤ 32
    → (v * 2 ^ u % 2 ^ 32 ≡ v * 2 ^ u) × (x + v * 2 ^ u < 2 ^ 32)
window_sum x v u n a b h =
    let p : x + v * 2 ^ u < 2 ^ (u + n) = append_slim x v u n a b in
    let q : 2 ^ (u + n) ≤ 2 ^ 32 = pow_mono {i = u + n} {j = 32} h in
    (shl_exact n u 32 b (omega arith), omega arith)
