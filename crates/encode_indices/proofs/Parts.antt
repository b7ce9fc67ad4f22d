-- The parts of a frame's side indices, written one after the other, are the whole (RFC 6716, section 4.2.7). Assumes nothing.
use Prim.Native.Nat.{ℕ, ◌/◌, ◌<◌}
use mathlib.Core.Path.{◌≡◌, sym, subst}
use native.Mathlib.Omega.{arith}
use lib.IntN.{nat_abs}
use Rattle.entcode.specs.Flat.{Out}
use Rattle.tree.specs.Asks.{Asks, then}
use Rattle.tree.proofs.Says.{says_means}
use Rattle.tree.specs.Inner.Told.{Told}
use Rattle.tree.proofs.Told.{told_then}
use Rattle.silk.specs.declared.Indices.{Indices}
use Rattle.silk.specs.declared.Setting.{Setting}
use Rattle.silk.specs.Inner.Indices.{Rate, Subframes, Writes}
use Rattle.silk.specs.IndexSyntax.{kind_of, kind, gains, spectrum, interpolation, voicing, seed, indices}
use Rattle.silk.specs.Record.{Shape}
use Rattle.silk.proofs.IndexSays.{kind_same, kind_says, gains_says, spectrum_says, interpolation_says}
use Rattle.encode_indices.proofs.Fields.{signal_is, voicing_says}

module _
    (s : Setting) (x : Indices) (rate : Rate s.khz) (sub : Subframes s.subframes) (active : s.active < 2) (h : Shape x) (w : Writes s x) where
  -- what follows the type
  abbrev behind : ℕ → Indices → Asks Indices Indices
  behind n y =
      then (gains s.mode s.subframes n y) (λ g.
      then (spectrum s.khz n g) (λ q.
      then (interpolation s.subframes q) (λ i.
      then (voicing n s i) seed)))

  module _ {o k g q i v r : Out} (n : ℕ) (e : n ≡ nat_abs x.signal) where
    pub parts_told : Told o x (kind s.active) 16 k → Told k x (gains s.mode s.subframes n x) 80 g → Told g x (spectrum s.khz n x) 528 q
        → Told q x (interpolation s.subframes x) 16 i → Told i x (voicing n s x) 160 v → Told v x (seed x) 16 r → Told o x (indices s x) 816 r
    unfolding indices
    parts_told a b d f u z =
        let p : n < 3 = omega (arith, w.kind.signal.most) in
        let t : Told k x (behind n x) 800 r
        = told_then _ (says_means (gains_says s.mode s.subframes n x sub p h w.gains)) b
        (told_then _ (says_means (spectrum_says s.khz n x rate p h w.spectrum)) d
        (told_then _ (says_means (interpolation_says s.subframes x sub w.interp w.fixed)) f
        (told_then _ (says_means (voicing_says s x w n rate sub h e)) u z))) in
        let m : n ≡ kind_of x / 2 = omega (arith, signal_is s x w) in
        told_then _ (says_means (kind_says s.active x active w.kind.kind)) a
        (subst (λ (y : Indices). Told k x (behind (kind_of x / 2) y) 800 r) (sym (kind_same x w.kind.offset w.kind.signal))
        (subst (λ (j : ℕ). Told k x (behind j x) 800 r) m t))
