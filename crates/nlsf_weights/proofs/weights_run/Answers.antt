-- The loop's invariant at the end of the vector, and from one place to the one before it. Assumes nothing.
use Rattle.std.proofs.Common.{◌≡◌, ℕ, suc, ◌-◌, ◌<◌, List, ◌∷◌, arith, sym, ap, ap₂, ◌∙◌, length, get_or, drop, set, length-set}
use lib.ListN.{drop_of_length-le}
use lib.Seq.{drop-cons, get_or-set_same, drop-set-lt}
use Rattle.sheet.specs.Weights.{weights_of}
use Rattle.nlsf_weights.specs.Inner.{share_at}
use Rattle.nlsf_weights.proofs.Rising.{weights_long}
use Rattle.nlsf_weights.proofs.weights_run.Goals as goal

-- a list that is f from the place behind i on, and its entry i set to that of f
from_place : (f w : List ℕ) (i x : ℕ) → i < length w → length w ≡ length f → x ≡ get_or f i 0 → drop (suc i) w ≡ drop (suc i) f
    → drop i (set w i x) ≡ drop i f
from_place f w i x h l e d =
    drop-cons (set w i x) i 0 (omega (arith, length-set w i x))
    ∙ ap₂ (λ (y : ℕ) (r : List ℕ). y ∷ r) (get_or-set_same w i x 0 h ∙ e) (drop-set-lt (suc i) w i x (omega arith) ∙ d)
    ∙ sym (drop-cons f i 0 (omega arith))

pub weigh_run-w-requires : goal.weigh_run-w-requires
weigh_run-w-requires c =
    let e : c.loop-i.i ≡ suc (c.loop-i.i - 1) = omega arith in
    record {
      shares = c.shares-shares.ensures;
      roots = c.roots-roots.ensures;
      rising = c.requires.1.1;
      inside = omega (arith, c.loop-i.auto.i);
      behind = c.loop-i.invariant.before ∙ ap (share_at c.args.values.now) e;
    }

pub loop-i-init : goal.loop-i-init
loop-i-init c =
    let w = c.args.weights.now in
    let v = c.args.values.now in
    record {
      long = c.requires.0;
      done = drop_of_length-le w {i = length v} (omega (arith, c.requires.0))
          ∙ sym (drop_of_length-le (weights_of v) {i = length v} (omega (arith, weights_long v)));
      before = c.last_share_run-q.ensures;
    }

pub loop-i-preserved : goal.loop-i-preserved
loop-i-preserved c =
    let w = c.loop-i.weights in
    let i = c.loop-i.i - 1 in
    let x = c.weigh_run-w.result.weight in
    let f = weights_of c.args.values.now in
    let e : c.loop-i.i ≡ suc i = omega arith in
    let n = c.loop-i.invariant.long ∙ sym (weights_long c.args.values.now) in
    let d : drop (suc i) w ≡ drop (suc i) f = rw e at c.loop-i.invariant.done in
    record {
      long = length-set w i x ∙ c.loop-i.invariant.long;
      done = from_place f w i x (omega (arith, c.loop-i.invariant.long, c.loop-i.auto.i)) n c.weigh_run-w.ensures.weight_value d;
      before = c.weigh_run-w.ensures.share_value;
    }
