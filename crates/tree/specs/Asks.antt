-- A coded text as a tree of questions: each asks for one symbol by a model, and says for each value what follows.
-- Running a tree on a reader is what a decoder answers; the symbols that a record says along it are what an encoder
-- writes. Assumes nothing.
use Rattle.std.specs.Prelude.{ℕ, List, [], ◌∷◌}
use Rattle.entcode.specs.declared.Dec.{Dec}
use Rattle.entcode.specs.Models.{Model, Sym}
use Rattle.entcode.specs.Reader.{read_val, read_next}

-- for writing an R and reading an A: a result; or a question, with the value that the writer of an R says there, and
-- what follows for each value
pub data Asks (R A : Type 0) : Type 0 where
  done : A → Asks R A
  ask : Model → (R → ℕ) → (ℕ → Asks R A) → Asks R A

-- one tree, then another for its result
unfoldable pub then : {R A B : Type 0} → Asks R A → (A → Asks R B) → Asks R B
then (done x) g = g x
then (ask m w f) g = ask m w (λ v. then (f v) g)

-- a tree for writing a Q, where a Q is a part of an R
unfoldable pub of : {Q R A : Type 0} → (R → Q) → Asks Q A → Asks R A
of h (done x) = done x
of h (ask m w f) = ask m (λ y. w (h y)) (λ v. of h (f v))

-- ---- reading

-- a result, and the reader behind it
pub record Got (A : Type 0) : Type 0 where
  pub value : A
  pub state : Dec

abbrev pub got : {A : Type 0} → A → Dec → Got A
got x d = record { value = x; state = d }

-- the tree run on a reader over the packet b
unfoldable pub run : {R A : Type 0} → List ℕ → Dec → Asks R A → Got A
run b d (done x) = got x d
run b d (ask m w f) = run b (read_next b m d) (f (read_val b m d))

-- ---- writing

-- the symbols that the writer of y says along the tree, and what they mean to a reader of it
unfoldable pub symbols : {R A : Type 0} → R → Asks R A → List Sym
symbols y (done x) = []
symbols y (ask m w f) = record { model = m; value = w y } ∷ symbols y (f (w y))

unfoldable pub meant : {R A : Type 0} → R → Asks R A → A
meant y (done x) = x
meant y (ask m w f) = meant y (f (w y))
