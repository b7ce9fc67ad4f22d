-- `wrapping_add` keeps a sum in 16 bits as `wrap16` does. Assumes nothing.
use Rattle.std.proofs.Common.{◌≡◌, ℕ, suc, ◌+◌, ◌-◌, ◌*◌, ◌/◌, ◌%◌, ◌<◌, ◌≤◌, arith, sym, ◌∙◌}
use Rattle.std.proofs.lemmas.Bool.{cases_lt}
use Rattle.std.proofs.lemmas.Int.{wrapping_add_is}
use Rattle.std.specs.Int.{int_wrap}
use mathlib.Core.Logic.{⊎_elim}
use lib.IntN.{ℤ, pos, negsuc, ◌+ℤ◌}
use mir.Syntax.{w16}
use mir.Val.{to_z}
use mir.Facts.{to_z_pos, to_z-neg}
use Rattle.ints.proofs.Wrapping.{wrap16_is}
use Rattle.ints.specs.Parts.{up, down}
use Rattle.ints.specs.Wrap.{wrap16}
use Rattle.wrapping.proofs.add16.Goals as goal

-- a number that differs from z by a multiple of 65,536, read with its sign
of_bits : (z : ℤ) (m j k : ℕ) → m < 65536 → up z + j * 65536 ≡ m + down z + k * 65536 → wrap16 z ≡ to_z w16 m
of_bits z m j k h e = ⊎_elim
    (λ (q : 32767 < m).
    let r : 65536 - suc (65535 - m) ≡ m = omega arith in
    let t = to_z-neg w16 (65535 - m) (omega arith) in
    wrap16_is z (negsuc (65535 - m)) j (k + 1) (omega arith) (omega arith) (omega arith) ∙ sym (rw r at t))
    (λ (q : m ≤ 32767). wrap16_is z (pos m) j k (omega arith) (omega arith) (omega arith) ∙ sym (to_z_pos w16 (omega arith)))
    (cases_lt 32767 m)

wrap_same : (z : ℤ) → wrap16 z ≡ int_wrap w16 z
unfolding int_wrap
wrap_same (pos n) = of_bits (pos n) (n % 65536) 0 (n / 65536) (omega arith) (omega arith)
wrap_same (negsuc n) = of_bits (negsuc n) (65535 - n % 65536) (n / 65536 + 1) 0 (omega arith) (omega arith)

pub returns : goal.returns
returns c = wrapping_add_is w16 c.args.a c.args.b c.ranges.a c.ranges.b ∙ sym (wrap_same (c.args.a +ℤ c.args.b))
