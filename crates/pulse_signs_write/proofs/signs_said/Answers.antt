-- One more pulse, whose symbol counts if it is not 0.
use Rattle.std.proofs.Common.{◌≡◌, ◌+◌, ◌∙◌, ℕ, length, get_or, take, pos, refl, ap, rules, arith, length-set}
use mathlib.Core.Bool.{cond}
use lib.ListN.{set}
use lib.Signed.{lt_z}
use mir.Facts.{to_z-of_z}
use mir.Syntax.{w16}
use mir.Val.{SFits}
use Rattle.pulse_signs_write.specs.Inner.{sign_of, signs_said}
use Rattle.pulse_signs_write.proofs.SaidLaws.{few_said, gathered}
use Rattle.pulse_signs_write.proofs.signs_said.Goals as goal

pub loop-k-init : goal.loop-k-init
unfolding signs_said
loop-k-init c = record { few = omega arith; size = c.requires.0; are = refl }

pub loop-k-preserved : goal.loop-k-preserved
loop-k-preserved c =
    let zs = c.args.pulses.now in
    let l = c.loop-k in
    let i = l.invariant in
    let z = get_or c.args.pulses.now c.loop-k.k (pos 0) in
    let f : SFits w16 (get_or c.args.pulses.now c.loop-k.k (pos 0)) = search rules in
    let s = c.sign_said in
    let e : c.sign_said.result ≡ cond (lt_z (get_or c.args.pulses.now c.loop-k.k (pos 0)) (pos 0)) 0 1 = rw (to_z-of_z f) at s.ensures in
    let n : c.next_place-n.result ≡ c.loop-k.n + length (sign_of (get_or c.args.pulses.now c.loop-k.k (pos 0))) =
    rw (to_z-of_z f) at c.next_place-n.ensures in
    record {
      few = omega (arith, n, few_said z, i.few);
      size = length-set l.symbols l.n _ ∙ i.size;
      are =
          ap (λ (m : ℕ). take m (set l.symbols l.n s.result)) n
          ∙ gathered l.symbols l.n s.result zs l.k (omega (arith, i.few, i.size)) (omega (arith, c.requires.1)) e i.are;
    }
