-- What document 01's "What the contracts owe" asks of each exported call: any two outcomes that its contract admits
-- on the same input coincide, in the answer and in each slice lent for writing. A contract `post` is over the
-- lifetimes, what is passed, the answer and what is left. Assumes nothing.
use Rattle.std.specs.Prelude.{◌≡◌}

-- where nothing is lent for writing: one answer
abbrev pub Answers : {K X A E : Type 0} → (K → X → A → E → Type 0) → Type 0
Answers {K = K} {X = X} {A = A} {E = E} post = (k : K) (x : X) (a c : A) (e f : E) → post k x a e → post k x c f → a ≡ c

-- where a slice is lent: one answer, and one slice
abbrev pub Leaves : {K X A E S : Type 0} → (K → X → A → E → Type 0) → (E → S) → Type 0
Leaves {K = K} {X = X} {A = A} {E = E} post slice =
    (k : K) (x : X) (a c : A) (e f : E) → post k x a e → post k x c f → (a ≡ c) × (slice e ≡ slice f)
