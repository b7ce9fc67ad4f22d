-- A symbol cuts the range (RFC 6716, sections 4.1.2 and 5.1.1). Its part is what lies between `upper` and `lower`,
-- counted from the range's top: with step = floor(range / ft), lower = step (ft - fh), and upper = step (ft - fl), or
-- the whole range where fl is 0. The account. Assumes nothing.
use Rattle.std.specs.Prelude.{ℕ, zero, suc, ◌-◌, ◌*◌, ◌/◌}
use Rattle.bitlen.specs.Length.{bit_length}

abbrev pub upper : ℕ → ℕ → ℕ → ℕ
upper rng zero ft = rng
upper rng (suc fl) ft = rng / ft * (ft - suc fl)

abbrev pub lower : ℕ → ℕ → ℕ → ℕ
lower rng fh ft = rng / ft * (ft - fh)

-- bits taken in all, less the bit length of the range (section 4.1.6.1)
unfoldable pub account : ℕ → ℕ → ℕ
account total rng = total - bit_length rng
