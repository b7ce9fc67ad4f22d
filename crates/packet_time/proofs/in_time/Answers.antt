-- `in_time` meets its contract: at each `return` the law of what led there. Assumes nothing.
use Rattle.std.proofs.Common.{◌*◌, ◌≤◌, sym, arith}
use native.Mathlib.Nat.{mul-le-mul}
use Rattle.framing.proofs.Kept.{duration_most}
use Rattle.packet_time.proofs.DurationLaws.{two, no_duration, too_many}
use Rattle.packet_time.proofs.in_time.Goals as goal

pub returns-then-count-le2 : goal.returns-then-count-le2
returns-then-count-le2 c = two _ _ c.if-count-le2.true

pub returns-then-config-gt31 : goal.returns-then-config-gt31
returns-then-config-gt31 c = no_duration _ _ c.if-config-gt31.true

pub returns-then-count-gt48 : goal.returns-then-count-gt48
returns-then-count-gt48 c = sym (too_many _ _ (omega (arith, c.if-config-gt31.false)) c.if-count-gt48.true)

pub overflow_mul-result : goal.overflow_mul-result
overflow_mul-result c =
    let d : c.duration_run.result ≤ 600 = omega (arith, duration_most c.args.config) in
    let n : c.args.count ≤ 48 = omega arith in
    let l : c.args.count * c.duration_run.result ≤ 48 * 600 = mul-le-mul n d in
    omega arith
