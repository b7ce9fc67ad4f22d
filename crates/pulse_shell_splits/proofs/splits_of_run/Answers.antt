-- Each sum is at most the whole.
use Rattle.std.proofs.Common.{◌≡◌, ◌+◌, ◌≤◌, ℕ, List, length, arith}
use Rattle.silk.specs.PulseSyntax.{total}
use Rattle.pulse_shell_splits.proofs.Sums.{eight, place_of, places_total, all_sums_lem, left_sums_lem}
use Rattle.pulse_shell_splits.proofs.splits_of_run.Goals as goal

most : (x : List ℕ) (p : ℕ) → (length x ≡ 16) × (p ≤ 16) × (total x ≡ p) → eight (place_of x) 0 + eight (place_of x) 8 ≤ 16
most x p h = omega (arith, places_total x h.0, h.1, h.2)

pub overflow_add-a : goal.overflow_add-a
overflow_add-a c = omega (arith, most c.args.x.now c.args.p c.requires)

pub overflow_add-b : goal.overflow_add-b
overflow_add-b c = omega (arith, most c.args.x.now c.args.p c.requires)

pub overflow_add-c : goal.overflow_add-c
overflow_add-c c = omega (arith, most c.args.x.now c.args.p c.requires)

pub overflow_add-d : goal.overflow_add-d
overflow_add-d c = omega (arith, most c.args.x.now c.args.p c.requires)

pub overflow_add-e : goal.overflow_add-e
overflow_add-e c = omega (arith, most c.args.x.now c.args.p c.requires)

pub overflow_add-f : goal.overflow_add-f
overflow_add-f c = omega (arith, most c.args.x.now c.args.p c.requires)

pub overflow_add-g : goal.overflow_add-g
overflow_add-g c = omega (arith, most c.args.x.now c.args.p c.requires)

pub overflow_add-h : goal.overflow_add-h
overflow_add-h c = omega (arith, most c.args.x.now c.args.p c.requires)

pub overflow_add-ab : goal.overflow_add-ab
overflow_add-ab c = omega (arith, most c.args.x.now c.args.p c.requires)

pub overflow_add-cd : goal.overflow_add-cd
overflow_add-cd c = omega (arith, most c.args.x.now c.args.p c.requires)

pub overflow_add-ef : goal.overflow_add-ef
overflow_add-ef c = omega (arith, most c.args.x.now c.args.p c.requires)

pub overflow_add-gh : goal.overflow_add-gh
overflow_add-gh c = omega (arith, most c.args.x.now c.args.p c.requires)

pub overflow_add-ad : goal.overflow_add-ad
overflow_add-ad c = omega (arith, most c.args.x.now c.args.p c.requires)

pub overflow_add-eh : goal.overflow_add-eh
overflow_add-eh c = omega (arith, most c.args.x.now c.args.p c.requires)

pub returns : goal.returns
returns c = let x = c.args.x.now in (all_sums_lem x c.args.p c.requires.0 c.requires.2, left_sums_lem x c.requires.0)
