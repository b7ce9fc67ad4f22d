-- Laws of `specs/Inner`: a refusal's number is not 0, and of two checks `and` is the first that refuses. Assumes nothing.
use Rattle.std.proofs.Common.{ℕ, ◌≡◌, ◌∙◌, refl, sym, ap, arith, Result, Ok, Err}
use mathlib.Core.Path.{ap₂}
use Rattle.std.specs.Result.{result_and}
use Rattle.refusals.specs.declared.Refusal.{Refusal}
use Rattle.refusals.specs.declared.Refusal.TheVariants.{TooLong, Unsound, Total, Number, Table, Length, Gaps, Value, Input, Framing, NotSpeech}
use Rattle.refusals.specs.First.{first_of}
use Rattle.refusals.specs.Inner.{number_of, refusal_of}

pub number_refuses : (refusal : Refusal) → number_of refusal ≡ 0 → ⊥
number_refuses TooLong e = omega (arith, e)
number_refuses Unsound e = omega (arith, e)
number_refuses Total e = omega (arith, e)
number_refuses Number e = omega (arith, e)
number_refuses Table e = omega (arith, e)
number_refuses Length e = omega (arith, e)
number_refuses Gaps e = omega (arith, e)
number_refuses Value e = omega (arith, e)
number_refuses Input e = omega (arith, e)
number_refuses Framing e = omega (arith, e)
number_refuses NotSpeech e = omega (arith, e)

pub refused_first : (refusal : Refusal) (n : ℕ) → first_of (number_of refusal) n ≡ number_of refusal
unfolding first_of
refused_first TooLong n = refl
refused_first Unsound n = refl
refused_first Total n = refl
refused_first Number n = refl
refused_first Table n = refl
refused_first Length n = refl
refused_first Gaps n = refl
refused_first Value n = refl
refused_first Input n = refl
refused_first Framing n = refl
refused_first NotSpeech n = refl

pub first_refuses : {A B : Type 0} (a : Result A Refusal) (b : Result B Refusal)
    → refusal_of (result_and a b) ≡ first_of (refusal_of a) (refusal_of b)
unfolding first_of
first_refuses (Ok x) b = refl
first_refuses (Err refusal) b = sym (refused_first refusal (refusal_of b))

-- the number of `and`'s answer x, by those of its two checks
pub and_refuses : {A : Type 0} {x : Result A Refusal} {k l : ℕ} (a b : Result A Refusal) → x ≡ result_and a b
    → refusal_of a ≡ k → refusal_of b ≡ l → refusal_of x ≡ first_of k l
and_refuses a b e p q = ap refusal_of e ∙ first_refuses a b ∙ ap₂ first_of p q
