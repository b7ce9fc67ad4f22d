-- Each return has the tests that led to it. Assumes nothing.
use Rattle.std.proofs.Common.{ℕ, ◌≡◌, ◌*◌, ◌∙◌, sym, ap, arith, true}
use borrow.Author.Tests.{eq-eqb, ne_eqb}
use Rattle.silk.specs.FrameCalls.{pulse_rule}
use Rattle.silk.proofs.PulseCallLaws.{pulse_numbers, blocks_most}
use Rattle.pulse_numbers.proofs.pulse_rule.Goals as goal

pub blocks_of_run-requires : goal.blocks_of_run-requires
blocks_of_run-requires c =
    let b = c.args in
    let p = pulse_numbers b.khz b.subframes b.signal b.offset (sym c.numbers_ok.ensures ∙ c.if-numbers_ok.true) in
    (p.khz16, p.subframes4)

pub overflow_mul-blocks_of_run : goal.overflow_mul-blocks_of_run
overflow_mul-blocks_of_run c =
    let b = c.args in
    let p = pulse_numbers b.khz b.subframes b.signal b.offset (sym c.numbers_ok.ensures ∙ c.if-numbers_ok.true) in
    omega (arith, c.blocks_of_run.ensures, blocks_most b.khz b.subframes p.khz16 p.subframes4)

pub returns-then-n-blocks_of_run : goal.returns-then-n-blocks_of_run
unfolding pulse_rule
returns-then-n-blocks_of_run c =
    let t = sym c.numbers_ok.ensures ∙ c.if-numbers_ok.true in
    let b = c.blocks_of_run in
    let e : c.args.n ≡ 16 * b.result = c.if-n-blocks_of_run.true in
    rw (t, eq-eqb _ _ (e ∙ ap (λ (k : ℕ). 16 * k) b.ensures))

pub returns-else-n-blocks_of_run : goal.returns-else-n-blocks_of_run
unfolding pulse_rule
returns-else-n-blocks_of_run c =
    let t = sym c.numbers_ok.ensures ∙ c.if-numbers_ok.true in
    let e = ap (λ (k : ℕ). 16 * k) c.blocks_of_run.ensures in
    rw (t, ne_eqb _ _ (λ q. c.if-n-blocks_of_run.false (q ∙ sym e)))

pub returns-else-numbers_ok : goal.returns-else-numbers_ok
unfolding pulse_rule
returns-else-numbers_ok c = rw (sym c.numbers_ok.ensures ∙ c.if-numbers_ok.false)
