-- A block that no shift suits leaves the frame without a plan.
use Rattle.std.proofs.Common.{◌≡◌, ◌+◌, ◌-◌, ◌*◌, ◌≤◌, ◌<◌, ◌∙◌, ℕ, List, [], length, take, drop, true, false, refl, sym}
use Rattle.std.proofs.Common.{arith, add-one, length-set, length-drop}
use Prim.Native.Nat.{zero, suc}
use mathlib.Core.Bool.{Bool, ◌&&◌}
use lib.Dec.{leb}
use lib.IntN.{ℤ}
use lib.ListN.{set}
use borrow.Author.Tests.{le-leb}
use lib.Seq.{length-take-le}
use Rattle.lists.specs.Every.{every}
use Rattle.lists.proofs.AtMostLaws.{at_most_zeros}
use Rattle.silk.specs.PulseSyntax.{rows16}
use Rattle.silk.specs.Inner.Pulses.{least_shift, Shift, Planned}
use Rattle.silk.proofs.PulseBlocks.{rows_counted}
use Rattle.silk.proofs.PulsePlans.{rows_snoc, planned_start, planned_next}
use Rattle.pulse_shifts.proofs.plan_run.Goals as goal

both_false : (a b c : Bool) → (b ≡ false → c ≡ false) → (a && b) ≡ false → (a && c) ≡ false
both_false true b c h e = h e
both_false false b c h e = refl

-- what fails for the first m blocks fails for more
longer : (f : List ℤ → Bool) (m n : ℕ) (v : List ℤ) → m ≤ n → every f (rows16 m v) ≡ false → every f (rows16 n v) ≡ false
unfolding rows16
longer f zero n v h e = cc
longer f (suc m) zero v h e = absurd (omega arith)
longer f (suc m) (suc n) v h e =
    both_false (f (take 16 v)) (every f (rows16 m (drop 16 v))) (every f (rows16 n (drop 16 v))) (λ q. longer f m n (drop 16 v) (omega arith) q) e

-- block i, cut out of the slice
block : (v : List ℤ) (i n : ℕ) → i < n → length v ≡ n * 16 → length (take 16 (drop (i * 16) v)) ≡ 16
block v i n h e = length-take-le 16 (drop (i * 16) v) (omega (arith, length-drop (i * 16) v))

planned : (v : List ℤ) (i n : ℕ) (c l : List ℕ) (count shift : ℕ) → i < n → n ≤ 20 → length v ≡ n * 16 → length c ≡ 20 → length l ≡ 20
    → Planned (rows16 i v) c l true → Shift (take (i * 16 + 16 - i * 16) (drop (i * 16) v)) count shift
    → Planned (rows16 (i + 1) v) (set c i count) (set l i shift) (leb shift 10)
planned v i n c l count shift h m e a b g s =
    let q : i * 16 + 16 - i * 16 ≡ 16 = omega arith in
    rw (add-one, rows_snoc i v)
    (planned_next (rows16 i v) (take 16 (drop (i * 16) v)) c l true i count shift g (rw q at s) (block v i n h e) (rows_counted i v)
    (omega arith) (omega arith))

unplanned : (v : List ℤ) (i n : ℕ) (c l : List ℕ) → i < n → Planned (rows16 (i + 1) v) c l false → Planned (rows16 n v) [] [] false
unplanned v i n c l h g =
    record { is = sym (longer (λ p. leb (least_shift p) 10) (i + 1) n v (omega arith) (sym g.is)); suited = λ q. cc }

pub loop-i-init : goal.loop-i-init
unfolding rows16
loop-i-init c = record { size = refl; size_lows = refl; planned = planned_start _ _ (at_most_zeros 16 20) (at_most_zeros 10 20) }

pub returns-in_err-b : goal.returns-in_err-b
returns-in_err-b c =
    let l = c.loop-i in
    let v = c.args.pulses.now in
    rw c.from_residual.ensures
    (unplanned v l.i c.args.n _ _ c.loop-i-test.true
    (planned v l.i c.args.n l.counts l.lows 0 11 c.loop-i-test.true c.requires.0 c.requires.1 l.invariant.size l.invariant.size_lows
    l.invariant.planned
    c.in_err-b.ensures))

pub loop-i-preserved : goal.loop-i-preserved
loop-i-preserved c =
    let l = c.loop-i in
    let v = c.args.pulses.now in
    let b = c.in_ok-b.b in
    let s = c.in_ok-b.ensures in
    let t = le-leb _ _ s.1 in
    record {
      size = length-set l.counts l.i _ ∙ l.invariant.size;
      size_lows = length-set l.lows l.i _ ∙ l.invariant.size_lows;
      planned =
          rw t at
          (planned v l.i c.args.n l.counts l.lows b.count b.shift c.loop-i-test.true c.requires.0 c.requires.1 l.invariant.size
          l.invariant.size_lows l.invariant.planned s.0);
    }
