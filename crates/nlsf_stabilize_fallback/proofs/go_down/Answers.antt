-- One place down: what is stored there is the result's. Assumes nothing.
use Rattle.std.proofs.Common.{◌≡◌, ℕ, ◌+◌, ◌-◌, arith, rules, sym, ap, subst, ◌∙◌, drop}
use lib.IntN.{ℤ, ◌-ℤ◌}
use mir.Syntax.{w16}
use mir.Val.{SFits}
use mir.Facts.{to_z-of_z}
use Rattle.spectrum.proofs.Kept.{length_lowered}
use Rattle.spectrum.proofs.Passes.{down_start, down_step, down_end}
use Rattle.spectrum.proofs.Widened.{wide}
use Rattle.spectrum.specs.Fallback.{lowered}
use Rattle.spectrum.specs.Values.{at, top, min_z}
use Rattle.nlsf_stabilize_fallback.proofs.Downward.{behind, behind_at, behind_end, behind_most, down_turn}
use Rattle.nlsf_stabilize_fallback.proofs.go_down.Goals as goal

pub lower_one-x-requires : goal.lower_one-x-requires
lower_one-x-requires c =
    let g = c.args.g.now in
    let v = c.args.v.now in
    let k = c.loop-j.j in
    let f = lowered (drop 1 g) v in
    let e : k - 1 + 1 ≡ k = omega arith in
    let a : SFits w16 (at g k) = search rules in
    let m = behind_most f k c.requires.1 in
    let t = down_turn g v k (k - 1) (omega arith) c.loop-j.auto.j c.requires.0 c.requires.1 in
    rw (e, to_z-of_z a, c.loop-j.invariant.behind) (omega (arith, m.1), (omega (arith, m.0), omega (arith, t.1)))

pub loop-j-init : goal.loop-j-init
loop-j-init c =
    let v = c.args.v.now in
    let f = lowered (drop 1 c.args.g.now) v in
    record {
      passed = down_start f v;
      behind = sym (subst (λ (n : ℕ). behind f n ≡ top) (length_lowered (drop 1 c.args.g.now) v) (behind_end f));
    }

pub loop-j-preserved : goal.loop-j-preserved
loop-j-preserved c =
    let g = c.args.g.now in
    let v = c.args.v.now in
    let f = lowered (drop 1 g) v in
    let k = c.loop-j.j in
    let j = k - 1 in
    let d = c.loop-j.invariant.passed in
    let i : j + 1 ≡ k = omega arith in
    let x : SFits w16 (at c.loop-j.v j) = search rules in
    let a : SFits w16 (at g k) = search rules in
    let r : SFits w16 c.lower_one-x.result = search rules in
    let t = down_turn g v k j (omega arith) c.loop-j.auto.j c.requires.0 c.requires.1 in
    let e : c.lower_one-x.result ≡ min_z (at c.loop-j.v j) (behind f k -ℤ at g k) =
    rw (i, to_z-of_z x, to_z-of_z a, c.loop-j.invariant.behind) at c.lower_one-x.ensures in
    let q : c.lower_one-x.result ≡ at f j =
    e ∙ ap (λ (z : ℤ). min_z z (behind f k -ℤ at g k)) (d.old j (omega arith)) ∙ sym t.0 in
    let n : c.from-next.result ≡ c.lower_one-x.result = c.from-next.ensures ∙ to_z-of_z r in
    rw (n, to_z-of_z r, to_z-of_z (wide r))
    record {
      passed = down_step f v c.loop-j.v k j c.lower_one-x.result (omega arith) c.loop-j.auto.j q d;
      behind = q ∙ sym (behind_at f j (omega (arith, length_lowered (drop 1 g) v)));
    }

pub returns : goal.returns
returns c =
    let f = lowered (drop 1 c.args.g.now) c.args.v.now in
    let e : c.loop-j.j ≡ 0 = omega arith in
    down_end f c.args.v.now c.loop-j.v (length_lowered (drop 1 c.args.g.now) c.args.v.now) (rw e at c.loop-j.invariant.passed)
