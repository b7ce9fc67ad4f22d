-- The magnitude of this place, shifted, is added.
use Rattle.std.proofs.Common.{◌≡◌, ◌+◌, ◌/◌, ◌^◌, ◌∙◌, ℕ, get_or, take, pos, refl, sym, ap, rules, arith}
use native.Mathlib.Nat.{div-le_self}
use lib.IntN.{nat_abs}
use lib.Signed.{nat_abs-le}
use mir.Facts.{to_z-of_z}
use mir.Syntax.{w16}
use mir.Val.{SFits}
use Rattle.silk.specs.PulseSyntax.{total}
use Rattle.silk.specs.PulseWriting.{shifted_by}
use Rattle.pulse_shifts.proofs.Shifted.{total_more}
use Rattle.pulse_shifts.proofs.total_at.Goals as goal

pub loop-k-init : goal.loop-k-init
unfolding total
loop-k-init c = record { is = refl; most = omega arith }

pub loop-k-preserved : goal.loop-k-preserved
loop-k-preserved c =
    let l = c.loop-k in
    let p = c.args.part.now in
    let z = get_or c.args.part.now c.loop-k.k (pos 0) in
    let f : SFits w16 (get_or c.args.part.now c.loop-k.k (pos 0)) = search rules in
    let m = c.magnitude.result in
    let e : c.magnitude.result ≡ nat_abs (get_or c.args.part.now c.loop-k.k (pos 0)) = rw (to_z-of_z f) at c.magnitude.ensures in
    record {
      is =
          ap (λ (t : ℕ). t + m / 2 ^ c.args.j) l.invariant.is
          ∙ ap (λ (t : ℕ). total (take l.k (shifted_by c.args.j p)) + t / 2 ^ c.args.j) e
          ∙ sym (total_more c.args.j p l.k (omega arith));
      most = omega (arith, e, nat_abs-le z f.sfits, div-le_self m (2 ^ c.args.j), l.invariant.most);
    }
