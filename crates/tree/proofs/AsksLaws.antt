-- Laws of trees, each by one induction: what was written reads back, and trees behind trees. Assumes nothing.
use Prim.Native.Nat.{ℕ}
use mathlib.Core.Path.{◌≡◌, refl, sym, ap, ap₂, ◌∙◌}
use mathlib.Core.List.{List, [], ◌∷◌, ◌++◌, append-nil}
use Rattle.entcode.specs.declared.Dec.{Dec}
use Rattle.entcode.specs.Models.{Sym, Model}
use Rattle.entcode.specs.Reader.{read_val, read_next}
use Rattle.tree.specs.Asks.{Asks, done, ask, then, of, Got, got, run, symbols, meant}

-- ---- symbols and trees

-- the symbols lead through the tree to x
abbrev pub Leads : {R A : Type 0} → Asks R A → List Sym → A → Type 0
Leads (done y) [] x = y ≡ x
Leads (done y) (q ∷ l) x = ⊥
Leads (ask m w f) [] x = ⊥
Leads (ask m w f) (q ∷ l) x = (q.model ≡ m) × Leads (f q.value) l x

-- a reader that is asked the symbols' models one after the other gives their values, and ends as z
abbrev pub Gives : List ℕ → Dec → List Sym → Dec → Type 0
Gives b d [] z = d ≡ z
Gives b d (q ∷ l) z = (read_val b q.model d ≡ q.value) × Gives b (read_next b q.model d) l z

-- ---- reading

-- where the reader gives the symbols, and they lead through the tree to x, running the tree ends in x
pub reads_back : {R A : Type 0} (b : List ℕ) (d z : Dec) (t : Asks R A) (l : List Sym) (x : A) → Leads t l x → Gives b d l z → run b d t ≡ got x z
unfolding run
reads_back b d z (done y) [] x p g = ap {B = Got _} (λ y. got y d) p ∙ ap {B = Got _} (λ (q : Dec). got x q) g
reads_back b d z (done y) (q ∷ l) x p g = absurd p
reads_back b d z (ask m w f) [] x p g = absurd p
reads_back b d z (ask m w f) (q ∷ l) x p g =
    ap (λ (k : Model). run b (read_next b k d) (f (read_val b k d))) (sym p.0)
    ∙ ap (λ (v : ℕ). run b (read_next b q.model d) (f v)) g.0
    ∙ reads_back b (read_next b q.model d) z (f q.value) l x p.1 g.1

-- a tree behind a tree runs on the reader that the first left
pub run_then : {R A B : Type 0} (b : List ℕ) (d : Dec) (t : Asks R A) (g : A → Asks R B)
    → run b d (then t g) ≡ run b (run b d t).state (g (run b d t).value)
unfolding run then
run_then b d (done x) g = refl
run_then b d (ask m w f) g = run_then b (read_next b m d) (f (read_val b m d)) g

-- what a writer has in hand does not matter to a reader
pub run_of : {Q R A : Type 0} (b : List ℕ) (d : Dec) (h : R → Q) (t : Asks Q A) → run b d (of h t) ≡ run b d t
unfolding run of
run_of b d h (done x) = refl
run_of b d h (ask m w f) = run_of b (read_next b m d) h (f (read_val b m d))

-- ---- symbols

-- what a writer says leads to what it means
pub symbols_lead : {R A : Type 0} (y : R) (t : Asks R A) → Leads t (symbols y t) (meant y t)
unfolding symbols meant
symbols_lead y (done x) = refl
symbols_lead y (ask m w f) = (refl, symbols_lead y (f (w y)))

pub written_reads_back : {R A : Type 0} (b : List ℕ) (d z : Dec) (y : R) (t : Asks R A) → Gives b d (symbols y t) z → run b d t ≡ got (meant y t) z
written_reads_back b d z y t g = reads_back b d z t (symbols y t) (meant y t) (symbols_lead y t) g

pub meant_then : {R A B : Type 0} (y : R) (t : Asks R A) (g : A → Asks R B) → meant y (then t g) ≡ meant y (g (meant y t))
unfolding meant then
meant_then y (done x) g = refl
meant_then y (ask m w f) g = meant_then y (f (w y)) g

pub meant_of : {Q R A : Type 0} (y : R) (h : R → Q) (t : Asks Q A) → meant y (of h t) ≡ meant (h y) t
unfolding meant of
meant_of y h (done x) = refl
meant_of y h (ask m w f) = meant_of y h (f (w (h y)))

pub symbols_then : {R A B : Type 0} (y : R) (t : Asks R A) (g : A → Asks R B) → symbols y (then t g) ≡ symbols y t ++ symbols y (g (meant y t))
unfolding symbols meant then
symbols_then y (done x) g = refl
symbols_then y (ask m w f) g = ap {B = List Sym} (λ (l : List Sym). record { model = m; value = w y } ∷ l) (symbols_then y (f (w y)) g)

pub symbols_of : {Q R A : Type 0} (y : R) (h : R → Q) (t : Asks Q A) → symbols y (of h t) ≡ symbols (h y) t
unfolding symbols of
symbols_of y h (done x) = refl
symbols_of y h (ask m w f) = ap {B = List Sym} (λ (l : List Sym). record { model = m; value = w (h y) } ∷ l) (symbols_of y h (f (w (h y))))

-- one element, then the others
pub symbols_cons : {P Q R A : Type 0} (y : R) (h : R → P) (t : Asks P A) (k : R → Q) (u : Asks Q (List A))
    → symbols y (then (of h t) (λ a. then (of k u) (λ l. done (a ∷ l)))) ≡ symbols (h y) t ++ symbols (k y) u
unfolding symbols
symbols_cons y h t k u =
    symbols_then y (of h t) (λ a. then (of k u) (λ l. done (a ∷ l)))
    ∙ ap₂ (λ (a b : List Sym). a ++ b) (symbols_of y h t)
    (symbols_then y (of k u) (λ l. done (meant y (of h t) ∷ l)) ∙ append-nil (symbols y (of k u)) ∙ symbols_of y k u)
