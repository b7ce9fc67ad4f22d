-- A record whose fields lie in their ranges is one that may be written (RFC 6716, section 4.2.7; document 01, "Side indices"). Assumes nothing.
use Prim.Native.Nat.{ℕ, ◌/◌, ◌<◌}
use mathlib.Core.Path.{◌≡◌, sym, ap, subst, ◌∙◌}
use mathlib.Core.Bool.{true}
use native.Mathlib.Omega.{arith}
use borrow.Author.Tests.{eqb-true}
use lib.Dec.{eqb}
use lib.IntN.{pos, nat_abs}
use Rattle.deciding.proofs.Both.{both_and}
use Rattle.deciding.proofs.Choice.{chosen}
use Rattle.tree.specs.Asks.{Asks}
use Rattle.tree.proofs.Says.{Says, means, says_then, says_all_lem, says_means}
use Rattle.silk.specs.declared.Indices.{Indices}
use Rattle.silk.specs.declared.Setting.{Setting}
use Rattle.silk.specs.Inner.Indices.{Rate, Subframes, Writes}
use Rattle.silk.specs.IndexSyntax.{kind_of, gains, voicing, indices}
use Rattle.silk.specs.Record.{Shape}
use Rattle.silk.specs.IndexWriting.{sayable}
use Rattle.silk.proofs.IndexWritingLaws.{same_sure}
use Rattle.silk.proofs.IndexCalls.{Chosen}
use Rattle.silk.proofs.IndexSays.{kind_same, kind_says, gains_says, spectrum_says, interpolation_says, pitch_says, seed_says}

module _ (s : Setting) (x : Indices) (w : Writes s x) where
  -- signal type and offset type, taken apart again
  pub signal_is : kind_of x / 2 ≡ nat_abs x.signal
  signal_is = omega (arith, w.kind.offset.most)

  pub voicing_says : (n : ℕ) → Rate s.khz → Subframes s.subframes → Shape x → n ≡ nat_abs x.signal
      → Says x x (voicing n s x)
  unfolding voicing
  voicing_says n r f h e =
      chosen (λ (q : Asks Indices Indices). Says x x q) (eqb n 2)
      (λ t. let v : x.signal ≡ pos 2 = w.kind.signal.least ∙ ap pos (sym e ∙ eqb-true n 2 t) in
      pitch_says s x r f h (w.pitch v))
      (λ t. means)

module _ (s : Setting) (x : Indices) (c : Chosen s) (h : Shape x) (w : Writes s x) where
  indices_says : Says x x (indices s x)
  unfolding indices
  indices_says =
      let p : kind_of x / 2 < 3 = omega (arith, w.kind.signal.most, signal_is s x w) in
      says_then _ (kind_says s.active x c.active w.kind.kind)
      (says_then _
      (subst (λ (z : Indices). Says x x (gains s.mode s.subframes (kind_of x / 2) z)) (sym (kind_same x w.kind.offset w.kind.signal))
      (gains_says s.mode s.subframes (kind_of x / 2) x c.subframes p h w.gains))
      (says_then _ (spectrum_says s.khz (kind_of x / 2) x c.rate p h w.spectrum)
      (says_then _ (interpolation_says s.subframes x c.subframes w.interp w.fixed)
      (says_then _ (voicing_says s x w (kind_of x / 2) c.rate c.subframes h (signal_is s x w)) (seed_says x w.seed)))))

  -- such a record is accepted
  pub fields_sayable : sayable s x ≡ true
  unfolding sayable
  fields_sayable = both_and _ _ (says_all_lem indices_says) (same_sure _ _ (says_means indices_says))
