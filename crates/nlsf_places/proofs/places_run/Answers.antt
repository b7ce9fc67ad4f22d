-- Two places more, the odd one before the even one. Assumes nothing.
use Rattle.std.proofs.Common.{◌≡◌, ℕ, ◌+◌, ◌-◌, ◌*◌, ◌≤◌, length, get_or, arith, rules, sym, ap, subst, ◌∙◌}
use lib.IntN.{pos}
use mir.Syntax.{w8, w16, w32}
use mir.Val.{SFits}
use mir.Facts.{to_z-of_z}
use Rattle.nlsf_weights.specs.Inner.{share_at}
use Rattle.spectrum.proofs.Passes.{Down, down_start, down_end}
use Rattle.spectrum.proofs.Results.{within_at}
use Rattle.spectrum.specs.Values.{at}
use Rattle.nlsf_places.specs.Inner.{weighted, residuals_by, places_by}
use Rattle.nlsf_places.proofs.Came.{near, none_behind, one, full, more, odd_by, even_by, bytes}
use Rattle.nlsf_places.proofs.places_run.Goals as goal

pub last_share_run-q-requires : goal.last_share_run-q-requires
last_share_run-q-requires c = let o = c.requires in (c.shares-shares.ensures, (omega (arith, o.some, o.book), o.rising))

pub loop-k-init : goal.loop-k-init
loop-k-init c =
    let a = c.args in
    let t = weighted a.step a.selectors.now a.lists.now a.values.now in
    let v = a.vector.now in
    let n : length v ≡ 2 * length a.selectors.now = c.requires.pairs in
    record {
      here = omega (arith, n);
      done = subst (λ (k : ℕ). Down (places_by t a.xs.now) v v k) n (down_start (places_by t a.xs.now) v);
      left = sym (subst (λ (k : ℕ). at (residuals_by t a.xs.now) k ≡ pos 0) n (none_behind t v a.xs.now c.requires));
      share = c.last_share_run-q.ensures ∙ ap (share_at a.values.now) (c.requires.book ∙ n);
    }

pub residual-r-requires : goal.residual-r-requires
residual-r-requires c =
    let a = c.args in
    let t = weighted a.step a.selectors.now a.lists.now a.values.now in
    let v = a.vector.now in
    let xs = a.xs.now in
    let o = c.requires in
    let h = c.loop-k.k - 1 in
    let i = 2 * h in
    let j = 2 * h + 1 in
    let y : (k : ℕ) → get_or a.lists.now k 0 ≤ 256 = λ k. search rules in
    let m = near t v xs o (bytes t y) in
    let fj : SFits w8 (at xs j) = search rules in
    let w = within_at 10 10 xs o.tens j in
    rw (to_z-of_z fj, c.loop-k.invariant.left) (((w.1, w.0), o.small), m (2 * c.loop-k.k))

pub place-requires : goal.place-requires
place-requires c =
    let a = c.args in
    let t = weighted a.step a.selectors.now a.lists.now a.values.now in
    let v = a.vector.now in
    let xs = a.xs.now in
    let o = c.requires in
    let h = c.loop-k.k - 1 in
    let i = 2 * h in
    let j = 2 * h + 1 in
    let y : (k : ℕ) → get_or a.lists.now k 0 ≤ 256 = λ k. search rules in
    let m = near t v xs o (bytes t y) in
    let fj : SFits w8 (at xs j) = search rules in
    let fr : SFits w32 c.residual-r.result = search rules in
    let p = c.predictor.ensures ∙ odd_by a.selectors.now a.lists.now h in
    let e = to_z-of_z fr ∙ (rw (to_z-of_z fj) at c.residual-r.ensures) in
    let r = one t v xs o j (2 * c.loop-k.k) (omega arith) c.loop-k.invariant.here c.loop-k.invariant.left p e in
    let w = o.heavy j (omega (arith, c.loop-k.invariant.here)) in
    (rw r (m j), omega (arith, c.weigh_run-w.ensures.weight_value, w))

pub residual-r-requires-in-loop-k : goal.residual-r-requires-in-loop-k
residual-r-requires-in-loop-k c =
    let a = c.args in
    let t = weighted a.step a.selectors.now a.lists.now a.values.now in
    let v = a.vector.now in
    let xs = a.xs.now in
    let o = c.requires in
    let h = c.loop-k.k - 1 in
    let i = 2 * h in
    let j = 2 * h + 1 in
    let y : (k : ℕ) → get_or a.lists.now k 0 ≤ 256 = λ k. search rules in
    let m = near t v xs o (bytes t y) in
    let fj : SFits w8 (at xs j) = search rules in
    let fr : SFits w32 c.residual-r.result = search rules in
    let p = c.predictor.ensures ∙ odd_by a.selectors.now a.lists.now h in
    let e = to_z-of_z fr ∙ (rw (to_z-of_z fj) at c.residual-r.ensures) in
    let r = one t v xs o j (2 * c.loop-k.k) (omega arith) c.loop-k.invariant.here c.loop-k.invariant.left p e in
    let fi : SFits w8 (at xs i) = search rules in
    let w = within_at 10 10 xs o.tens i in
    rw (to_z-of_z fi, r) (((w.1, w.0), o.small), m j)

pub place-requires-in-loop-k : goal.place-requires-in-loop-k
place-requires-in-loop-k c =
    let a = c.args in
    let t = weighted a.step a.selectors.now a.lists.now a.values.now in
    let v = a.vector.now in
    let xs = a.xs.now in
    let o = c.requires in
    let h = c.loop-k.k - 1 in
    let i = 2 * h in
    let j = 2 * h + 1 in
    let y : (k : ℕ) → get_or a.lists.now k 0 ≤ 256 = λ k. search rules in
    let m = near t v xs o (bytes t y) in
    let fj : SFits w8 (at xs j) = search rules in
    let fr : SFits w32 c.residual-r.result = search rules in
    let p = c.predictor.ensures ∙ odd_by a.selectors.now a.lists.now h in
    let e = to_z-of_z fr ∙ (rw (to_z-of_z fj) at c.residual-r.ensures) in
    let r = one t v xs o j (2 * c.loop-k.k) (omega arith) c.loop-k.invariant.here c.loop-k.invariant.left p e in
    let fi : SFits w8 (at xs i) = search rules in
    let fs : SFits w32 c.residual-r-in-loop-k.result = search rules in
    let q = c.predictor-in-loop-k.ensures ∙ even_by a.selectors.now a.lists.now h in
    let f = to_z-of_z fs ∙ (rw (to_z-of_z fi) at c.residual-r-in-loop-k.ensures) in
    let s = one t v xs o i j (omega arith) (omega (arith, c.loop-k.invariant.here)) r q f in
    let w = o.heavy i (omega (arith, c.loop-k.invariant.here)) in
    (rw s (m i), omega (arith, c.weigh_run-u.ensures.weight_value, w))

pub loop-k-preserved : goal.loop-k-preserved
loop-k-preserved c =
    let a = c.args in
    let t = weighted a.step a.selectors.now a.lists.now a.values.now in
    let v = a.vector.now in
    let xs = a.xs.now in
    let o = c.requires in
    let h = c.loop-k.k - 1 in
    let i = 2 * h in
    let j = 2 * h + 1 in
    let fj : SFits w8 (at xs j) = search rules in
    let fr : SFits w32 c.residual-r.result = search rules in
    let p = c.predictor.ensures ∙ odd_by a.selectors.now a.lists.now h in
    let e = to_z-of_z fr ∙ (rw (to_z-of_z fj) at c.residual-r.ensures) in
    let fi : SFits w8 (at xs i) = search rules in
    let fs : SFits w32 c.residual-r-in-loop-k.result = search rules in
    let q = c.predictor-in-loop-k.ensures ∙ even_by a.selectors.now a.lists.now h in
    let f = to_z-of_z fs ∙ (rw (to_z-of_z fi) at c.residual-r-in-loop-k.ensures) in
    let fz : SFits w16 c.place.result = search rules in
    let fy : SFits w16 c.place-in-loop-k.result = search rules in
    let w = c.weigh_run-w.ensures in
    let u = c.weigh_run-u.ensures in
    let b = more t v xs o j (2 * c.loop-k.k) (omega arith) c.loop-k.invariant p e w.weight_value w.share_value (to_z-of_z fz ∙ c.place.ensures) in
    more t v xs o i j (omega arith) b q f u.weight_value u.share_value (to_z-of_z fy ∙ c.place-in-loop-k.ensures)

pub returns : goal.returns
returns c =
    let a = c.args in
    let t = weighted a.step a.selectors.now a.lists.now a.values.now in
    let e : c.loop-k.k ≡ 0 = omega arith in
    down_end (places_by t a.xs.now) a.vector.now c.loop-k.vector (full t a.vector.now a.xs.now c.requires) (rw e at c.loop-k.invariant.done)
