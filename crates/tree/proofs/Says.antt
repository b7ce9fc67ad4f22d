-- What the writer of a record says along a tree: symbols that may all be written, and what they mean. Assumes nothing.
use Prim.Native.Nat.{ℕ}
use mathlib.Core.Path.{◌≡◌, refl}
use mathlib.Core.Bool.{true}
use borrow.Author.Tests.{eq-eqb}
use Rattle.deciding.proofs.Both.{both_and}
use Rattle.entcode.specs.Models.{Model}
use Rattle.entcode.specs.Rules.{say_rule}
use Rattle.tree.specs.Asks.{Asks, done, ask, then, of, symbols, meant}
use Rattle.tree.specs.Telling.{all_said}

-- the symbols of y along the tree may be written, and mean r
pub data Says {R A : Type 0} (y : R) (r : A) : Asks R A → Type 0 where
  means : Says y r (done r)
  says : {m : Model} {w : R → ℕ} {f : ℕ → Asks R A} → say_rule m (w y) ≡ 0 → Says y r (f (w y)) → Says y r (ask m w f)

pub says_all_lem : {R A : Type 0} {y : R} {r : A} {t : Asks R A} → Says y r t → all_said (symbols y t) ≡ true
unfolding symbols all_said
says_all_lem means = refl
says_all_lem (says e p) = both_and _ _ (eq-eqb _ _ e) (says_all_lem p)

pub says_means : {R A : Type 0} {y : R} {r : A} {t : Asks R A} → Says y r t → meant y t ≡ r
unfolding meant
says_means means = refl
says_means (says e p) = says_means p

pub says_then : {R A B : Type 0} {y : R} {r : A} {q : B} {t : Asks R A} (g : A → Asks R B) → Says y r t → Says y q (g r) → Says y q (then t g)
unfolding then
says_then g means k = k
says_then g (says e p) k = says e (says_then g p k)

pub says_of : {Q R A : Type 0} {y : R} {r : A} (h : R → Q) {t : Asks Q A} → Says (h y) r t → Says y r (of h t)
unfolding of
says_of h means = means
says_of h (says e p) = says e (says_of h p)
