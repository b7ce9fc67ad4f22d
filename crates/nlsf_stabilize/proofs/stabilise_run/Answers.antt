-- Before each turn a vector is held that does not keep its gaps; behind it, one more move is made. Assumes nothing.
use Rattle.std.proofs.Common.{◌≡◌, ℕ, suc, ◌+◌, ◌-◌, ◌<◌, List, length, replicate, arith, refl, sym, ap, subst, ◌∙◌}
use lib.IntN.{ℤ, pos, ◌-ℤ◌}
use mir.Syntax.{w32}
use mir.Val.{SFits, to_z, of_z}
use mir.Facts.{to_z-of_z}
use Rattle.ints.proofs.Sums.{up_diff, down_diff}
use Rattle.ints.proofs.Widths.{parts_fit}
use Rattle.spectrum.proofs.FirstSmallest.{after}
use Rattle.spectrum.proofs.Kept.{good_total, length_move}
use Rattle.spectrum.proofs.MoveBounds.{place_most}
use Rattle.spectrum.specs.Distances.{place, move}
use Rattle.spectrum.specs.Stabilising.{run, stabilise}
use Rattle.spectrum.specs.Values.{top, total}
use Rattle.nlsf_stabilize_search.specs.Inner.{Searched, UpTo, Falls}
use Rattle.nlsf_stabilize_slack.proofs.HeldLaws.{slack_near, as_long}
use Rattle.nlsf_stabilize_slack.specs.Inner.{Held}
use Rattle.nlsf_stabilize.specs.Inner.{Ready}
use Rattle.nlsf_stabilize.proofs.RunLaws.{Turn, run_start, run_stop, run_on, run_out, stays_keeps}
use Rattle.nlsf_stabilize.proofs.StepLaws.{rises_keeps, falls_not, place_found, kept_stored, stored_fallback}
use Rattle.nlsf_stabilize.proofs.stabilise_run.Goals as goal

-- ---- what the gaps leave of 32,768

room_is : (g : List ℤ) (s : ℤ) → SFits w32 s → s ≡ total g → pos 32768 -ℤ to_z w32 (of_z w32 s) ≡ top -ℤ total g
room_is g s f e = rw (to_z-of_z f) (ap (λ (z : ℤ). top -ℤ z) e)

room_fits : (g v : List ℤ) → Ready g v → SFits w32 (top -ℤ total g)
room_fits g v m =
    let t = good_total g m.rule.good in
    parts_fit (top -ℤ total g) (omega (arith, up_diff top (total g))) (omega (arith, down_diff top (total g), t.0, m.rule.most))

pub overflow_sub-w : goal.overflow_sub-w
overflow_sub-w c = rw (room_is c.args.g.now c.args.sum c.ranges.sum c.requires.0.1) (room_fits c.args.g.now c.args.v.now c.requires.0.0)

pub slacks_run-requires : goal.slacks_run-requires
slacks_run-requires c =
    let r = c.requires.0.0 in
    let e = ap (λ (z : ℤ). to_z w32 (of_z w32 z)) (room_is c.args.g.now c.args.sum c.ranges.sum c.requires.0.1)
    ∙ to_z-of_z (room_fits c.args.g.now c.args.v.now r) in
    record { w_value = (ap (replicate 18) e, refl); ruled = ((r.rule, r.long), (r.some, r.few)) }

pub loop-m-init : goal.loop-m-init
loop-m-init c =
    let g = c.args.g.now in
    let v = c.args.v.now in
    record {
      long = refl;
      turn = record {
        values = v;
        held = c.slacks_run.ensures;
        rest = run_start g v;
        broken = sym (stays_keeps g v c.requires.0.0) ∙ c.requires.1;
      };
    }

-- ---- a turn

module _ {g v₀ v w s : List ℤ} {m : ℕ} (t : Turn g v₀ v w s m) where
  many : length v ≡ length t.values
  many = as_long _ _ _ _ _ t.held

  place_is : (i : ℕ) → Searched w (length v) i → i ≡ place g t.values
  place_is i f = place_found _ _ _ _ _ t.held i t.broken (subst (λ (n : ℕ). Searched w n i) many f)

  -- with one more move, the rest of the run is the whole answer
  on : (i : ℕ) → m < 20 → Searched w (length v) i → after (m + 1) (run (20 - (m + 1)) g (move g t.values i)) ≡ stabilise g v₀
  on i h f = run_on g t.values i m (stabilise g v₀) h t.broken (place_is i f) t.rest

  as_given : (i : ℕ) {v' w' : List ℤ} → length v ≡ length v₀ → Held g (move g t.values i) v' w' s → length v' ≡ length v₀
  as_given i l h = as_long _ _ _ _ _ h ∙ length_move g t.values i ∙ sym many ∙ l

pub place_run-i-requires : goal.place_run-i-requires
place_run-i-requires c =
    let t = c.loop-m.invariant.turn in
    ((t.held.slacks, omega (arith, many t, t.held.few)), slack_near _ _ _ _ _ t.held)

pub move_at_run-requires : goal.move_at_run-requires
move_at_run-requires c =
    let t = c.loop-m.invariant.turn in
    (record { values = t.values; held = t.held }, omega (arith, place_is t c.place_run-i.result c.place_run-i.ensures, many t, place_most t.values c.args.g.now t.held.long))

pub rises_run-requires : goal.rises_run-requires
rises_run-requires c =
    let t = c.loop-m.invariant.turn in
    let h = c.move_at_run.ensures t.values t.held in
    (h.slacks, omega (arith, as_long _ _ _ _ _ h, h.few))

pub returns-then-rises_run : goal.returns-then-rises_run
returns-then-rises_run c =
    let g = c.args.g.now in
    let t = c.loop-m.invariant.turn in
    let i = c.place_run-i.result in
    let u = move g t.values i in
    let h = c.move_at_run.ensures t.values t.held in
    let up = subst (λ (j : ℕ). UpTo (suc j) c.move_at_run.new.w) (as_long _ _ _ _ _ h) (c.rises_run.ensures.0 c.if-rises_run.true) in
    let k = rises_keeps _ _ _ _ _ h up in
    ap (λ (l : List ℤ). record { vector = l; moves = c.loop-m.m + 1 }) (kept_stored _ _ _ _ _ h k)
    ∙ run_stop g u (c.loop-m.m + 1) (stabilise g c.args.v.now) h.long h.rule.good k (on t i c.loop-m-test.true c.place_run-i.ensures)

pub loop-m-preserved : goal.loop-m-preserved
loop-m-preserved c =
    let t = c.loop-m.invariant.turn in
    let i = c.place_run-i.result in
    let h = c.move_at_run.ensures t.values t.held in
    let down = subst (λ (j : ℕ). Falls (suc j) c.move_at_run.new.w) (as_long _ _ _ _ _ h) (c.rises_run.ensures.1 c.if-rises_run.false) in
    record {
      long = as_given t i c.loop-m.invariant.long h;
      turn = record {
        values = move c.args.g.now t.values i;
        held = h;
        rest = on t i c.loop-m-test.true c.place_run-i.ensures;
        broken = falls_not _ _ _ _ _ h down;
      };
    }

-- ---- behind the loop

pub fall_back_run-requires : goal.fall_back_run-requires
fall_back_run-requires c =
    let t = c.loop-m.invariant.turn in
    let n = many t in
    (omega (arith, n, t.held.some), (t.held.long ∙ ap suc (sym n), t.held.rule))

pub returns : goal.returns
returns c =
    let t = c.loop-m.invariant.turn in
    let e : c.loop-m.m ≡ 20 = omega arith in
    ap (λ (k : ℕ). record { vector = c.fall_back_run.new.v; moves = k }) (sym e)
    ∙ run_out c.args.g.now t.values c.fall_back_run.new.v c.loop-m.m (stabilise c.args.g.now c.args.v.now) e
    (c.fall_back_run.ensures ∙ stored_fallback _ _ _ _ _ t.held) t.rest
