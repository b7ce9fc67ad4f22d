-- A number of 8 bits handed on as one of 16. Assumes nothing.
use Prim.Native.Nat.{◌^◌, ◌<◌}
use mathlib.Core.Path.{◌≡◌, ◌∙◌}
use borrow.Author.Rules.{sfits_of}
use lib.IntN.{ℤ}
use lib.Signed.{mag}
use mir.Syntax.{w8, w16}
use mir.Val.{SFits, hbits, to_z, of_z}
use mir.Facts.{to_z-of_z}

pub widened : {r x : ℤ} → mag r < 2 ^ hbits w16 → r ≡ to_z w8 (of_z w8 x) → SFits w8 x → to_z w16 (of_z w16 r) ≡ x
widened p e f = to_z-of_z {w = w16} (sfits_of p) ∙ e ∙ to_z-of_z f
