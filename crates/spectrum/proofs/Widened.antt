-- A number of 16 bits is one of 32, and is read as such. Assumes nothing.
use mathlib.Core.Path.{◌≡◌}
use native.Mathlib.Omega.{arith}
use lib.IntN.{ℤ, ◌+ℤ◌}
use mir.Syntax.{w16, w32}
use mir.Val.{SFits, to_z, of_z}
use mir.Facts.{to_z-of_z, sfits_widen}
use Rattle.ints.proofs.Sums.{up_sum, down_sum}
use Rattle.ints.proofs.Widths.{fits_up, fits_down, parts_fit}
use Rattle.spectrum.specs.Values.{Mag}

pub wide : {z : ℤ} → SFits w16 z → SFits w32 z
wide f = sfits_widen {w = w16} tt f

pub read16 : {z : ℤ} → SFits w16 z → to_z w32 (of_z w32 (to_z w16 (of_z w16 z))) ≡ z
read16 f = simp (to_z-of_z f, to_z-of_z {w = w32} (wide f))

-- it lies within 32,768, and its sum with a number that does is one of 32 bits
pub near : {z : ℤ} → SFits w16 z → Mag 32768 z
near {z} f = (omega (arith, fits_up z f), omega (arith, fits_down z f))

pub more_fits : (p x : ℤ) → Mag 32768 p → SFits w16 x → SFits w32 (p +ℤ x)
more_fits p x m f =
    parts_fit (p +ℤ x) (omega (arith, up_sum p x, fits_up x f, m)) (omega (arith, down_sum p x, fits_down x f, m))
