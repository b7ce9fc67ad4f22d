-- The number before k, or 0. Assumes nothing.
use Rattle.std.proofs.Common.{ℕ, ◌-◌, ◌/◌, ◌≡◌, zero, suc, refl, arith}
use Rattle.framing.specs.Padding.{pad_tail}
use Rattle.packet_padding.proofs.tail_run.Goals as goal

tail : (k : ℕ) → k - 1 - (k - 1) / 255 ≡ pad_tail k
unfolding pad_tail
tail zero = refl
tail (suc n) = let e : suc n - 1 ≡ n = omega arith in rw e

pub returns : goal.returns
returns c = rw c.saturating_sub-n.ensures (tail c.args.k)
