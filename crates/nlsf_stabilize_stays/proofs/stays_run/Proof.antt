-- `stays_run` meets its contract. The invariant: the places below i have passed, and `p` is the value before i.
-- Assumes nothing.
use Prim.Native.Nat.{suc, ◌+◌, ◌-◌, ◌≤◌}
use mathlib.Core.Path.{◌≡◌, refl, sym, ap, ◌∙◌}
use mathlib.Core.Bool.{Bool, true, false, ◌||◌}
use mathlib.Core.List.{◌∷◌}
use native.Mathlib.Omega.{arith}
use native.Mathlib.Numerals.{add-one, add-two}
use borrow.Author.Rules.{rules, sfits_of}
use lib.IntN.{pos}
use lib.ListN.{length}
use mir.Syntax.{w16, w32}
use mir.Val.{SFits, to_z}
use mir.Facts.{to_z-of_z}
use Rattle.ints.proofs.Widths.{parts_fit}
use Rattle.spectrum.specs.Values.{at}
use Rattle.nlsf_stabilize_stays.proofs.StayLaws.{Passed, lost_at, ends_at, passed_two, stays_not, stays_last, stays_odd}
use Rattle.spectrum.proofs.Widened.{wide, read16, near}
use Rattle.nlsf_stabilize_stays.proofs.stays_run.Statement.{statement}
use Rattle.nlsf_stabilize_stays.proofs.stays_run.Tie as tie

abbrev invariant_loop : tie.invariant-loop-i
invariant_loop v g p₀ i₀ p i = (i ≤ length v) × SFits w16 (to_z w32 p) × (to_z w32 p ≡ at (pos 0 ∷ v) i) × Passed g v i

abbrev decreases_loop : tie.decreases-loop-i
decreases_loop v g p₀ i₀ p i = length v - i

loop_holds : tie.Need-loop-i-init invariant_loop decreases_loop
loop_holds c = (omega arith, parts_fit (pos 0) (omega arith) (omega arith), refl, λ k h. absurd (omega arith))

-- the values read
value : (c : tie.After-x-1 invariant_loop decreases_loop) → SFits w16 (at c.args.v.now c.loop-i.i)
value c = sfits_of c.x-1.given

value_2 : (c : tie.After-y-1 invariant_loop decreases_loop)
    → SFits w16 (at c.args.v.now (c.loop-i.i + 1))
value_2 c = sfits_of c.y-1.given

value_3 : (c : tie.After-x-then-i-v-1 invariant_loop decreases_loop)
    → SFits w16 (at c.args.v.now c.loop-i.i)
value_3 c = sfits_of c.x-then-i-v-1.given

cast_x : tie.Need-overflow_cast-x invariant_loop decreases_loop
cast_x c = rw (to_z-of_z (value c)) (wide (value c))

cast_y : tie.Need-overflow_cast-y invariant_loop decreases_loop
cast_y c = rw (to_z-of_z (value_2 c)) (wide (value_2 c))

lost_requires : tie.Need-lost-requires invariant_loop decreases_loop
lost_requires c κs = near c.loop-i.invariant.1

lost_requires_2 : tie.Need-lost-requires-in-loop-i invariant_loop decreases_loop
lost_requires_2 c κs = rw (read16 (value c.before.before.before.before)) (near (value c.before.before.before.before))

-- the turn's start, behind the first test and behind the second, and where the second value is read
abbrev turn : tie.After-lost invariant_loop decreases_loop → tie.At-loop-i invariant_loop decreases_loop
turn c = c.before.before.before.before.before

abbrev turn_2 : tie.After-lost-in-loop-i invariant_loop decreases_loop → tie.At-loop-i invariant_loop decreases_loop
turn_2 c = turn c.before.before

abbrev next : tie.After-lost-in-loop-i invariant_loop decreases_loop → tie.After-y-1 invariant_loop decreases_loop
next c = c.before.before.before.before

-- the tests as the laws have them
first : (c : tie.After-lost invariant_loop decreases_loop) → let b = turn c in
    c.lost.result ≡ lost_at b.args.g.now b.args.v.now b.loop-i.i
first c =
    let b = turn c in
    let h : SFits w16 (at b.args.g.now b.loop-i.i) = sfits_of c.lost-arg-1.given in
    rw (read16 (value c.before.before.before), to_z-of_z h, b.loop-i.invariant.2) at c.lost.ensures

second : (c : tie.After-lost-in-loop-i invariant_loop decreases_loop) → let b = turn_2 c in
    c.lost-in-loop-i.result ≡ lost_at b.args.g.now b.args.v.now (suc b.loop-i.i)
second c =
    let b = turn_2 c in
    let h : SFits w16 (at b.args.g.now (b.loop-i.i + 1)) = sfits_of c.lost-arg-in-loop-i-1.given in
    let y = next c in
    rw (read16 (value y.before), read16 (value_2 y), to_z-of_z h, add-one b.loop-i.i) at c.lost-in-loop-i.ensures

both : (c : tie.After-lost-in-loop-i invariant_loop decreases_loop) (t : Bool) → c.lost.result || c.lost-in-loop-i.result ≡ t
    → let b = turn_2 c in let g = b.args.g.now in let v = b.args.v.now in
    lost_at g v b.loop-i.i || lost_at g v (suc b.loop-i.i) ≡ t
both c t e = rw (first c.before.before, second c) at e

returns : tie.Need-returns-then-lost invariant_loop decreases_loop
returns c =
    let b = turn_2 c.before in
    stays_not b.args.g.now b.args.v.now b.requires b.loop-i.i (omega arith)
    (both c.before true c.if-lost.true)

loop_again : tie.Need-loop-i-preserved invariant_loop decreases_loop
loop_again c =
    let b = turn_2 c.before in
    let v = b.args.v.now in
    let i = b.loop-i.i in
    let f = value_2 (next c.before) in
    let p = passed_two b.args.g.now v i b.loop-i.invariant.3 (both c.before false c.if-lost.false) in
    rw (read16 f) (omega arith, f, ap (at v) (add-one i) ∙ ap (at (pos 0 ∷ v)) (sym (add-two i)), λ k h. p k (omega arith))

cast_x_2 : tie.Need-overflow_cast-x-then-i-v invariant_loop decreases_loop
cast_x_2 c = rw (to_z-of_z (value_3 c)) (wide (value_3 c))

lost_requires_3 : tie.Need-lost-requires-then-i-v invariant_loop decreases_loop
lost_requires_3 c κs = near c.loop-i.invariant.1

ends_requires : tie.Need-ends-requires invariant_loop decreases_loop
ends_requires c κs = rw (read16 (value_3 c.before.before.before)) (near (value_3 c.before.before.before))

returns_2 : tie.Need-returns-then-i-v invariant_loop decreases_loop
returns_2 c =
    let b = c.before.before.before.before.before.before.before in
    let g = b.args.g.now in
    let v = b.args.v.now in
    let i = b.loop-i.i in
    let x = value_3 c.before.before.before.before in
    let k : SFits w16 (at g i) = sfits_of c.lost-arg-then-i-v-1.given in
    let l : SFits w16 (at g (i + 1)) = sfits_of c.ends-arg-1.given in
    let e : c.lost-then-i-v.result ≡ lost_at g v i =
    rw (read16 x, to_z-of_z k, b.loop-i.invariant.2) at c.lost-then-i-v.ensures in
    let d : c.ends.result ≡ ends_at g v (suc i) = rw (read16 x, to_z-of_z l, add-one i) at c.ends.ensures in
    rw (e, d) (stays_odd g v b.requires i (omega arith) b.loop-i.invariant.3)

ends_requires_2 : tie.Need-ends-requires-2 invariant_loop decreases_loop
ends_requires_2 c κs = near c.loop-i.invariant.1

returns_3 : tie.Need-returns invariant_loop decreases_loop
returns_3 c =
    let b = c.before.before.before.before in
    let g = b.args.g.now in
    let v = b.args.v.now in
    let i = b.loop-i.i in
    let l : SFits w16 (at g i) = sfits_of c.ends-arg-2-1.given in
    let d : c.ends-2.result ≡ ends_at g v i = rw (to_z-of_z l, b.loop-i.invariant.2) at c.ends-2.ensures in
    d ∙ stays_last g v b.requires i (omega arith) b.loop-i.invariant.3

pub stays_run_spec : {M : Type 1} → statement M
stays_run_spec =
    tie.close
    (tie.spec
    invariant_loop
    decreases_loop
    loop_holds
    (λ c. search rules)
    (λ c. search rules)
    (λ c. search rules)
    cast_x
    (λ c. search rules)
    (λ c. search rules)
    (λ c. search rules)
    cast_y
    (λ c. search rules)
    (λ c. search rules)
    lost_requires
    (λ c. search rules)
    (λ c. search rules)
    (λ c. search rules)
    lost_requires_2
    returns
    (λ c. search rules)
    (λ c. search rules)
    loop_again
    (λ c. search rules)
    (λ c. search rules)
    cast_x_2
    (λ c. search rules)
    (λ c. search rules)
    lost_requires_3
    (λ c. search rules)
    (λ c. search rules)
    (λ c. search rules)
    ends_requires
    returns_2
    (λ c. search rules)
    (λ c. search rules)
    ends_requires_2
    returns_3)
