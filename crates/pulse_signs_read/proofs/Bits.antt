-- The machine tests the bits of a number: they are all 0 where it is. Assumes nothing.
use Rattle.std.proofs.Common.{◌≡◌, ◌∙◌, sym, ap, pos}
use lib.IntN.{ℤ}
use mir.Facts.{to_z-of_z}
use mir.Syntax.{w16}
use mir.Val.{SFits, to_z, of_z}

pub zero_of : (m : ℤ) → SFits w16 m → of_z w16 m ≡ 0 → m ≡ pos 0
zero_of m f e = sym (to_z-of_z f) ∙ ap (to_z w16) e
