-- One place up: what is stored there is the result's. Assumes nothing.
use Rattle.std.proofs.Common.{◌≡◌, ◌<◌, ◌∷◌, arith, rules, refl, sym, ap, ◌∙◌, length}
use native.Mathlib.Numerals.{add-one}
use lib.IntN.{ℤ, pos, ◌+ℤ◌}
use mir.Syntax.{w16}
use mir.Val.{SFits}
use mir.Facts.{to_z-of_z}
use Rattle.spectrum.proofs.Kept.{length_raised}
use Rattle.spectrum.proofs.Passes.{up_start, up_step, up_end}
use Rattle.spectrum.specs.Fallback.{sat16, raised}
use Rattle.spectrum.specs.Values.{at, max_z}
use Rattle.nlsf_stabilize_fallback.proofs.Upward.{raised_at}
use Rattle.nlsf_stabilize_fallback.proofs.go_up.Goals as goal

pub raise_one-x-requires : goal.raise_one-x-requires
raise_one-x-requires c =
    let a : SFits w16 (at c.args.g.now c.loop-i.i) = search rules in
    rw (to_z-of_z a) (c.requires.1.1.none c.loop-i.i)

pub loop-i-init : goal.loop-i-init
loop-i-init c = record { passed = up_start (raised c.args.g.now c.args.v.now) c.args.v.now; before = refl }

pub loop-i-preserved : goal.loop-i-preserved
loop-i-preserved c =
    let g = c.args.g.now in
    let v = c.args.v.now in
    let i = c.loop-i.i in
    let u = c.loop-i.invariant.passed in
    let x : SFits w16 (at c.loop-i.v i) = search rules in
    let a : SFits w16 (at g i) = search rules in
    let r : SFits w16 c.raise_one-x.result = search rules in
    let h : i < length v = omega (arith, u.long) in
    let e : c.raise_one-x.result ≡ max_z (at c.loop-i.v i) (sat16 (at (pos 0 ∷ raised g v) i +ℤ at g i)) =
    rw (to_z-of_z x, to_z-of_z a, c.loop-i.invariant.before) at c.raise_one-x.ensures in
    let p = c.requires.1 in
    let q : c.raise_one-x.result ≡ at (raised g v) i =
    e ∙ ap (λ (z : ℤ). max_z z (sat16 (at (pos 0 ∷ raised g v) i +ℤ at g i))) (u.old i (omega arith))
    ∙ sym (raised_at g v i h p.0 (p.1.none 0) p.1.first) in
    rw (to_z-of_z r)
    record {
      passed = up_step (raised g v) v c.loop-i.v i c.raise_one-x.result h q u;
      before = q ∙ ap (at (pos 0 ∷ raised g v)) (sym (add-one i));
    }

pub returns : goal.returns
returns c =
    let g = c.args.g.now in
    let v = c.args.v.now in
    up_end (raised g v) v c.loop-i.v c.loop-i.i (omega (arith, c.loop-i.invariant.passed.long)) (length_raised g v) c.loop-i.invariant.passed
