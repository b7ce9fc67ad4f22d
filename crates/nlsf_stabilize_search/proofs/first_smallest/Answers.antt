-- The first smallest of the steps so far, from one step to the next. Both tests' laws are listed, so that a test that takes an equal number
-- fails at numbers. Assumes nothing.
use Rattle.std.proofs.Common.{◌≡◌, ℕ, ◌+◌, arith, refl, subst}
use native.Mathlib.Numerals.{add-one}
use lib.IntN.{◌-ℤ◌}
use mir.Syntax.{w32}
use mir.Val.{to_z, of_z}
use mir.Facts.{to_z-of_z}
use Rattle.ints.proofs.Order.{le_z_true, le_z_false, lt_z_true, lt_z_false}
use Rattle.spectrum.specs.Inner.{First, step}
use Rattle.spectrum.specs.Values.{at}
use Rattle.nlsf_stabilize_search.proofs.SearchLaws.{best_one, best_newer, best_older, value_fits, step_fits}
use Rattle.nlsf_stabilize_search.proofs.first_smallest.Goals as goal
use Rattle.nlsf_stabilize_search.proofs.first_smallest.Goals.{then-d-least, else-d-least}

pub overflow_sub-least : goal.overflow_sub-least
overflow_sub-least c =
    let w = c.args.w.now in
    let m = c.requires.1 in
    rw (to_z-of_z (value_fits (at w 1) (m 1)), to_z-of_z (value_fits (at w 0) (m 0))) (step_fits (at w 1) (at w 0) (m 1) (m 0))

pub loop-i-init : goal.loop-i-init
loop-i-init c =
    let w = c.args.w.now in
    let m = c.requires.1 in
    let a = to_z-of_z (value_fits (at w 0) (m 0)) in
    let b = to_z-of_z (value_fits (at w 1) (m 1)) in
    record { value = b; best = best_one (step w) _ (rw (b, a) (to_z-of_z (step_fits (at w 1) (at w 0) (m 1) (m 0)))) }

pub overflow_sub-d : goal.overflow_sub-d
overflow_sub-d c =
    let w = c.args.w.now in
    let m = c.requires.1 in
    let i = c.loop-i.i in
    rw (to_z-of_z (value_fits (at w (i + 1)) (m (i + 1))), c.loop-i.invariant.value) (step_fits (at w (i + 1)) (at w i) (m (i + 1)) (m i))

pub loop-i-preserved : goal.loop-i-preserved
loop-i-preserved c =
    let w = c.args.w.now in
    let m = c.requires.1 in
    let l = c.loop-i in
    let i = l.i in
    let f = step w in
    let z = to_z w32 l.least-bits in
    let d = to_z w32 (of_z w32 (to_z w32 (of_z w32 (at w (i + 1))) -ℤ to_z w32 l.x-bits)) in
    let r = to_z-of_z (value_fits (at w (i + 1)) (m (i + 1))) in
    let s = to_z-of_z (step_fits (at w (i + 1)) (at w i) (m (i + 1)) (m i)) in
    let e : d ≡ f i = rw (r, l.invariant.value, s, add-one i) refl in
    record {
      value = r;
      best = elim c.if-d-least.branch [
        | then-d-least t ↦ best_newer f i l.place z d l.invariant.best e (omega (arith, lt_z_true, le_z_true, t.if-d-least.true)) t.least-is t.place-is
        | else-d-least t ↦ best_older f i l.place z d l.invariant.best e (omega (arith, lt_z_false, le_z_false, t.if-d-least.false)) t.least-is t.place-is
      ];
    }

pub returns : goal.returns
returns c n e =
    let q : c.loop-i.i ≡ n = omega arith in
    subst (λ (m : ℕ). First (step c.args.w.now) m c.loop-i.place) q c.loop-i.invariant.best.first
