-- Each turn puts the first of the digits that are left.
use Rattle.std.proofs.Common.{◌≡◌, ℕ, ◌/◌, ◌^◌, ◌≤◌, sym, ◌∙◌, subst, arith}
use Rattle.entcode.specs.Flat.{held_of, Out, out}
use Rattle.entcode.specs.Inner.Writing.{Roomy, carried}
use Rattle.entenc_finish_digits.proofs.Digits.{Carried, digits_more, digits_none, carried_kept}
use Rattle.entenc_finish_digits.proofs.put_digits_run.Goals as goal

kept : {o q : Out} (d : ℕ) → q ≡ carried o d → Roomy o → held_of o.state.rem ≤ 256 → Carried o q
kept {o} {q} d e h l = subst (λ (x : Out). Carried o x) (sym e) (carried_kept o d h l)

pub loop-preserved : goal.loop-preserved
loop-preserved c =
    let l = c.loop in
    let i = l.invariant in
    let e = c.carry_out_run-w.ensures in
    let k = kept (l.v / 2 ^ 23) e i.roomy i.held in record {
      rest = rw e (digits_more (out l.buf l.w) l.v _ l.counter c.loop-test.true ∙ i.rest);
      roomy = k.roomy;
      held = k.held;
      run = omega (arith, k.run, i.run);
    }

pub returns : goal.returns
returns c =
    let l = c.loop in
    c.put_rest.ensures ∙ digits_none (out l.buf l.w) l.v _ l.counter c.loop-test.false ∙ l.invariant.rest
