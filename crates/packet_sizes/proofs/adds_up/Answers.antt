-- `adds_up` meets its contract. Assumes nothing.
use Rattle.std.proofs.Common.{ℕ, ◌+◌, ◌≡◌, [], arith}
use Rattle.framing.specs.Lengths.{total}
use Rattle.packet_sizes.proofs.SizeLaws.{total_more, over}
use Rattle.packet_sizes.proofs.adds_up.Goals as goal

none : (n : ℕ) → n + total [] ≡ n
unfolding total
none n = omega arith

pub loop-size-init : goal.loop-size-init
loop-size-init c = none c.args.n

pub returns-then-left-size : goal.returns-then-left-size
returns-then-left-size c =
    over c.args.sizes.now _ _ _ c.loop-size-test.true c.loop-size.invariant (omega (arith, c.if-left-size.true, c.from-size.ensures))

pub loop-size-preserved : goal.loop-size-preserved
loop-size-preserved c =
    omega (
      arith,
      c.loop-size.invariant,
      c.from-size.ensures,
      c.if-left-size.false,
      total_more c.args.sizes.now c.loop-size.size-index c.loop-size-test.true,
    )
