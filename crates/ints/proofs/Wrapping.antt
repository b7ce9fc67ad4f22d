-- The law of numbers kept in 16 bits. Assumes nothing.
use Prim.Native.Nat.{ℕ, ◌+◌, ◌*◌, ◌≤◌, ◌<◌}
use mathlib.Core.Path.{◌≡◌}
use native.Mathlib.Omega.{arith}
use lib.IntN.{ℤ, pos, negsuc, ◌+ℤ◌, ◌-ℤ◌}
use Rattle.ints.specs.Parts.{up, down}
use Rattle.ints.specs.Wrap.{mod_z, wrap16}
use Rattle.ints.proofs.Sums.{sum_parts, diff_parts}
use Rattle.ints.proofs.Order.{no_down, parts_same}

mod_parts : (z w : ℤ) (j k : ℕ) → up z + down w + j * 65536 ≡ up w + down z + k * 65536 → up w < 65536 → down w ≡ 0 → mod_z z 65536 ≡ up w
mod_parts (pos n) w j k e u d = omega arith
mod_parts (negsuc n) w j k e u d = omega arith

-- w lies in 16 bits, and differs from z by a multiple of 65,536: z kept in 16 bits is w
pub wrap16_is : (z w : ℤ) (j k : ℕ) → up z + down w + j * 65536 ≡ up w + down z + k * 65536 → up w < 32768 → down w ≤ 32768 → wrap16 z ≡ w
unfolding wrap16
wrap16_is z w j k e u d =
    parts_same (pos (mod_z (z +ℤ pos 32768) 65536) -ℤ pos 32768) w
    (omega (arith, diff_parts (pos (mod_z (z +ℤ pos 32768) 65536)) (pos 32768), sum_parts w (pos 32768), d0, m))
  where
    d0 : down (w +ℤ pos 32768) ≡ 0
    d0 = no_down (w +ℤ pos 32768) (omega (arith, sum_parts w (pos 32768)))

    m : mod_z (z +ℤ pos 32768) 65536 ≡ up (w +ℤ pos 32768)
    m = mod_parts (z +ℤ pos 32768) (w +ℤ pos 32768) j k (omega (arith, sum_parts z (pos 32768), sum_parts w (pos 32768))) (omega (arith, sum_parts w (pos 32768), d0)) d0
