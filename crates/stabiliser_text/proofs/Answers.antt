-- What the stabiliser's answers may be, as far as their text needs it. Assumes nothing.
use Prim.Native.Nat.{ℕ, ◌≤◌}
use mathlib.Core.Path.{◌≡◌, refl, sym, ◌∙◌}
use mathlib.Core.List.{List}
use native.Mathlib.Omega.{arith}
use borrow.Author.Tests.{eqb-true}
use lib.Dec.{eqb}
use lib.IntN.{ℤ}
use lib.ListN.{length}
use Rattle.deciding.proofs.Choice.{chosen}
use Rattle.spectrum.specs.Calls.{Called, answered, lengths_ok, stabilise_refusal, stabilise_call}
use Rattle.spectrum.specs.Gaps.{good_gaps}
use Rattle.spectrum.proofs.CallLaws.{lengths_are, stabilise_accepted}
use Rattle.spectrum.proofs.Promises.{stabilise_moves}
use Rattle.stabiliser_text_answer.specs.Inner.{Small}

refusals : (v g : List ℤ) → stabilise_refusal v g ≤ 7
unfolding stabilise_refusal
refusals v g =
    chosen (λ (n : ℕ). n ≤ 7) (lengths_ok v g) (λ e. chosen (λ (n : ℕ). n ≤ 7) (good_gaps (length v) g) (λ f. omega arith) (λ f. omega arith))
    (λ e. omega arith)

-- the answer's number is the refusal
number : (v g : List ℤ) → (stabilise_call v g).answer.refusal ≡ stabilise_refusal v g
unfolding stabilise_call answered
number v g =
    chosen (λ (c : Called). c.answer.refusal ≡ stabilise_refusal v g) (eqb (stabilise_refusal v g) 0) (λ e. sym (eqb-true _ _ e)) (λ e. refl)

pub small : (v g : List ℤ) → Small (length v) (stabilise_call v g).answer
small v g =
    record {
      refusal = omega (arith, number v g, refusals v g);
      moves = stabilise_moves v g;
      values = λ e. (lengths_are v g (stabilise_accepted v g (sym (number v g) ∙ e)).0).most;
    }
