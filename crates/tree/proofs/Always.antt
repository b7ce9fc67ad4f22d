-- What holds of every result of a tree, and how far its reading moves a reader, whatever symbols are read. Assumes
-- nothing.
use Prim.Native.Nat.{ℕ, ◌+◌, ◌-◌, ◌≤◌}
use mathlib.Core.Path.{ap, subst}
use mathlib.Core.List.{List}
use native.Mathlib.Omega.{arith}
use Rattle.entcode.specs.declared.Dec.{Dec}
use Rattle.entcode.specs.Models.{Readable}
use Rattle.entcode.specs.Reader.{read_val, read_next, Bytes}
use Rattle.entcode.specs.Inner.Reading.{Core, Inside, growth}
use Rattle.entcode.proofs.ReaderLaws.{CoreNext}
use Rattle.entcode.proofs.ReadLaws.{grows, read_inside}
use Rattle.tree.specs.Asks.{Asks, done, ask, then, of, Got, run}
use Rattle.tree.specs.Inner.Ran.{Ran}

-- each model can be read, together they add at most n to the total, and whatever values the reads give, the result
-- has P
abbrev pub Always : {R A : Type 0} → (A → Type 0) → ℕ → Asks R A → Type 0
Always P n (done x) = P x
Always P n (ask m w f) = Readable m × (growth m ≤ n) × ((v : ℕ) → Inside m v → Always P (n - growth m) (f v))

pub always_run : {R A : Type 0} (P : A → Type 0) (n : ℕ) (b : List ℕ) (d : Dec) (t : Asks R A) → Always P n t → P (run b d t).value
unfolding run
always_run P n b d (done x) h = h
always_run P n b d (ask m w f) h =
    always_run P (n - growth m) b (read_next b m d) (f (read_val b m d)) (h.2 (read_val b m d) (read_inside b m d h.0))

pub always_core : {R A : Type 0} (P : A → Type 0) (n : ℕ) (b : List ℕ) (d : Dec) (t : Asks R A) → Always P n t → Bytes b → Core b d → CoreNext b n d (run b d t).state
unfolding run
always_core P n b d (done x) h y c = record { core = c; least = omega arith; most = omega arith }
always_core P n b d (ask m w f) h y c =
    let g = grows b m d y h.0 c in
    let r = always_core P (n - growth m) b (read_next b m d) (f (read_val b m d)) (h.2 (read_val b m d) (read_inside b m d h.0)) y g.core in
    record { core = r.core; least = omega (arith, g.least, r.least); most = omega (arith, g.most, r.most, h.1) }

pub ran_always : {R A : Type 0} (P : A → Type 0) (n : ℕ) {b : List ℕ} {d z : Dec} {t : Asks R A} {m : ℕ} {x : A} → Always P n t → Ran b d t m x z → P x
ran_always {A = A} P n {b = b} {d = d} {t = t} a r = subst P (ap (λ (g : Got A). g.value) r.is) (always_run P n b d t a)

pub always_more : {R A : Type 0} (P : A → Type 0) (n m : ℕ) (t : Asks R A) → n ≤ m → Always P n t → Always P m t
always_more P n m (done x) l h = h
always_more P n m (ask q w f) l h = (h.0, omega (arith, h.1), λ v i. always_more P (n - growth q) (m - growth q) (f v) (omega arith) (h.2 v i))

pub always_weaker : {R A : Type 0} (P Q : A → Type 0) (n : ℕ) (t : Asks R A) → ((x : A) → P x → Q x) → Always P n t → Always Q n t
always_weaker P Q n (done x) k h = k x h
always_weaker P Q n (ask m w f) k h = (h.0, h.1, λ v i. always_weaker P Q (n - growth m) (f v) k (h.2 v i))

pub always_then : {R A B : Type 0} (P : A → Type 0) (Q : B → Type 0) (n m : ℕ) (t : Asks R A) (g : A → Asks R B)
    → Always P n t → ((x : A) → P x → Always Q m (g x)) → Always Q (n + m) (then t g)
unfolding then
always_then P Q n m (done x) g h k = always_more Q m (n + m) (g x) (omega arith) (k x h)
always_then P Q n m (ask q w f) g h k = (
  h.0,
  omega (arith, h.1),
  λ v i. always_more Q (n - growth q + m) (n + m - growth q) (then (f v) g) (omega (arith, h.1)) (always_then P Q (n - growth q) m (f v) g (h.2 v i) k),
)

pub always_of : {Q R A : Type 0} (P : A → Type 0) (n : ℕ) (h : R → Q) (t : Asks Q A) → Always P n t → Always P n (of h t)
unfolding of
always_of P n h (done x) a = a
always_of P n h (ask m w f) a = (a.0, a.1, λ v i. always_of P (n - growth m) h (f v) (a.2 v i))
