-- Where no place has a pulse, nothing is asked.
use Rattle.std.proofs.Common.{◌≡◌, ◌∙◌, ℕ, length, refl, ap, pos, arith}
use Prim.Native.Nat.{zero, suc}
use mathlib.Core.List.{List, [], ◌∷◌}
use lib.IntN.{ℤ}
use lib.ListN.{replicate}
use Rattle.entcode.specs.declared.Dec.{Dec}
use Rattle.entcode.specs.Inner.Reading.{Core}
use Rattle.tree.specs.Asks.{got, run}
use Rattle.tree.specs.Inner.Ran.{Ran}
use Rattle.tree.proofs.Through.{before}
use Rattle.silk.specs.PulseSyntax.{each, sign}
use Rattle.silk.proofs.PulseSteps.{each_next}
use Rattle.silk.specs.Inner.Pulses.{mags}
use Rattle.symbol_reader.proofs.AlongLaws.{ran_along}
use Rattle.pulse_signs_read.proofs.silk_decode_signs_run.Goals as goal

no_signs : (b : List ℕ) (d : Dec) (r : List ℕ) (n : ℕ) → run b d (each (pos 0) (sign r) (mags (replicate n (pos 0)))) ≡ got (replicate n (pos 0)) d
unfolding each run sign
no_signs b d r zero = refl
no_signs b d r (suc n) =
    each_next b d d (pos 0) (sign r) 0 (mags (replicate n (pos 0))) (pos 0) refl ∙ ap (λ g. before (pos 0 ∷ []) g) (no_signs b d r n)

none : (b : List ℕ) (d : Dec) (r : List ℕ) (s : List ℤ) → s ≡ replicate (length s) (pos 0) → Core b d → Ran b d (each (pos 0) (sign r) (mags s)) 256 s d
none b d r s e c = rw e (record { is = no_signs b d r (length s); core = c; least = omega arith; most = omega arith })

pub returns-then-no_pulse : goal.returns-then-no_pulse
returns-then-no_pulse c = ran_along refl (none _ _ _ c.args.places.now (c.no_pulse.ensures c.if-no_pulse.true) c.args.r.now.core)
