-- The call: lengths, then the sum of gaps that meet the rule. Assumes nothing.
use Prim.Native.Nat.{ℕ, suc}
use mathlib.Core.Path.{◌≡◌, refl, sym, ap, ap₂, ◌∙◌}
use mathlib.Core.Bool.{Bool, true, false, cond}
use mathlib.Core.List.{List}
use Rattle.std.proofs.Common.{Option, None, Some}
use native.Mathlib.Omega.{arith}
use lib.IntN.{ℤ, pos, negsuc}
use lib.ListN.{length}
use Rattle.deciding.proofs.Both.{and_both}
use Rattle.ints.specs.Parts.{down}
use Rattle.spectrum.proofs.CallLaws.{lengths_are, stabilise_accepted, stabilise_refuses, stabilise_answers}
use Rattle.spectrum.proofs.Kept.{good_total}
use Rattle.spectrum.proofs.Results.{ruled}
use Rattle.spectrum.specs.Calls.{called, lengths_ok, stabilise_refusal, stabilise_call}
use Rattle.spectrum.specs.Distances.{keeps}
use Rattle.spectrum.specs.Gaps.{good_gaps}
use Rattle.spectrum.specs.Values.{total}
use Rattle.nlsf_stabilize_stays.proofs.StayLaws.{stays_still}
use Rattle.nlsf_stabilize_stays.specs.Inner.{stays}
use Rattle.nlsf_stabilize.specs.Inner.{Ready, ruled_sum, sum_of}

some_is : (z : ℤ) → down z ≡ 0 → Some z ≡ sum_of z
some_is (pos n) d = refl
some_is (negsuc n) d = absurd (omega arith)

-- the sum that is answered is the whole one
pub sum_some : (n : ℕ) (g : List ℤ) → length g ≡ suc n → good_gaps n g ≡ true → Some (total g) ≡ sum_of (ruled_sum n g)
unfolding ruled_sum
sum_some n g l h =
    some_is (total g) (omega (arith, good_total g (ruled n g l h).good)) ∙ sym (ap (λ (b : Bool). sum_of (cond b (total g) (negsuc 0))) h)

pub sum_none : (n : ℕ) (g : List ℤ) → good_gaps n g ≡ false → None ≡ sum_of (ruled_sum n g)
unfolding ruled_sum
sum_none n g h = sym (ap (λ (b : Bool). sum_of (cond b (total g) (negsuc 0))) h)

-- and there is one just where the rule is met
pub ruled_some : (n : ℕ) (g : List ℤ) (z : ℤ) → length g ≡ suc n → Some z ≡ sum_of (ruled_sum n g) → (good_gaps n g ≡ true) × (z ≡ total g)
ruled_some n g z l e = go (good_gaps n g) refl
  where
    go : (b : Bool) → good_gaps n g ≡ b → (b ≡ true) × (z ≡ total g)
    go true h = let f = sum_some n g l h in (refl, cc)
    go false h = let f = sum_none n g h in let k : ◌≡◌ {A = Option ℤ} (Some z) None = e ∙ sym f in absurd (cc)

pub ruled_none : (n : ℕ) (g : List ℤ) → length g ≡ suc n → None ≡ sum_of (ruled_sum n g) → good_gaps n g ≡ false
ruled_none n g l e = go (good_gaps n g) refl
  where
    go : (b : Bool) → good_gaps n g ≡ b → b ≡ false
    go true h = let f = sum_some n g l h in let k : ◌≡◌ {A = Option ℤ} None (Some (total g)) = e ∙ sym f in absurd (cc)
    go false h = refl

module _ (v g : List ℤ) where
  refused : (n : ℕ) → stabilise_refusal v g ≡ n → (n ≡ 0 → ⊥) → called v n 0 ≡ stabilise_call v g
  refused n e z = ap (λ (m : ℕ). called v m 0) (sym e) ∙ stabilise_refuses v g (λ h. z (sym e ∙ h))

  pub refused_lengths : lengths_ok v g ≡ false → called v 6 0 ≡ stabilise_call v g
  unfolding stabilise_refusal
  refused_lengths e = refused 6 (ap (λ (t : Bool). cond t (cond (good_gaps (length v) g) 0 7) 6) e) (λ h. omega arith)

  pub refused_gaps : lengths_ok v g ≡ true → good_gaps (length v) g ≡ false → called v 7 0 ≡ stabilise_call v g
  unfolding stabilise_refusal
  refused_gaps e f = refused 7 (ap₂ (λ (t u : Bool). cond t (cond u 0 7) 6) e f) (λ h. omega arith)

  pub accepted : lengths_ok v g ≡ true → good_gaps (length v) g ≡ true → stabilise_refusal v g ≡ 0
  unfolding stabilise_refusal
  accepted e f = ap₂ (λ (t u : Bool). cond t (cond u 0 7) 6) e f

-- an accepted call's vector and gaps are what the loop of moves asks
pub ready : (v g : List ℤ) → stabilise_refusal v g ≡ 0 → Ready g v
ready v g e =
    let p = stabilise_accepted v g e in
    let l = lengths_are v g p.0 in
    let h : length g ≡ suc (length v) = omega (arith, l.one_more) in
    record { rule = ruled (length v) g h p.1; long = h; some = omega (arith, l.least); few = l.most }

-- a vector that stays is answered as it is, with 0 moves
pub stays_answers : (v g : List ℤ) → lengths_ok v g ≡ true → stays g v ≡ true → called v 0 0 ≡ stabilise_call v g
stays_answers v g l e =
    let h : length g ≡ suc (length v) = omega (arith, (lengths_are v g l).one_more) in
    stabilise_answers v g v 0 (accepted v g l (and_both (good_gaps (length v) g) (keeps g v) e).0) (stays_still v g h e)
