-- `firsts_run` meets its contract. Assumes nothing.
use Rattle.std.proofs.Common.{ℕ, ◌+◌, sym, ap, ◌∙◌, arith}
use Rattle.framing.specs.Lengths.{total}
use Rattle.framing.proofs.Kept.{head_varied, head_equal, firsts_varied, none_first}
use Rattle.packet_form.proofs.firsts_run.Goals as goal

pub returns-then-f-clause-value_value : goal.returns-then-f-clause-value_value
returns-then-f-clause-value_value c =
    let f = c.args.f in
    let s = c.args.s.now in
    let r = c.lengths_run.ensures.value_value in
    let v = c.if-f.true in
    (r.0 ∙ sym (ap total (firsts_varied f s v)), ap (λ (n : ℕ). f.own + f.lens + n) r.1 ∙ sym (head_varied f s v))

pub returns-else-f-clause-value_value : goal.returns-else-f-clause-value_value
returns-else-f-clause-value_value c =
    let v = c.if-f.false in
    (sym (none_first c.args.f c.args.s.now v), omega (arith, head_equal c.args.f c.args.s.now v))
