-- What every way through a tree ends in, and so what its reader answers whatever the packet holds: a property of the
-- result, a reader for the next read, and a total that grew by at most 16 bits a question. Assumes nothing.
use Prim.Native.Nat.{ℕ, zero, suc, ◌+◌, ◌*◌, ◌≤◌}
use mathlib.Core.Path.{◌≡◌, subst}
use mathlib.Core.List.{List}
use native.Mathlib.Nat.{le_of_suc-le-suc, not-suc-le-zero}
use native.Mathlib.Omega.{arith}
use Rattle.entcode.specs.declared.Dec.{Dec}
use Rattle.entcode.specs.Models.{Model, Readable}
use Rattle.entcode.specs.Reader.{read_val, read_next, Bytes}
use Rattle.entcode.specs.Inner.Reading.{Core, Inside, growth}
use Rattle.entcode.proofs.ReadLaws.{grows, read_inside}
use Rattle.tree.specs.Asks.{Asks, done, ask, then, of, Got, run}

-- at most n questions, each by a model that may be asked for, and a result in P
pub data Ends {R A : Type 0} (P : A → Type 0) : ℕ → Asks R A → Type 0 where
  ends : {n : ℕ} {x : A} → P x → Ends P n (done x)
  asks : {n : ℕ} {m : Model} {w : R → ℕ} {f : ℕ → Asks R A} → Readable m → growth m ≤ 16
      → ((v : ℕ) → Inside m v → Ends P n (f v)) → Ends P (suc n) (ask m w f)

pub record Ended {A : Type 0} (b : List ℕ) (d : Dec) (P : A → Type 0) (n : ℕ) (g : Got A) : Type 0 where
  pub holds : P g.value
  pub core : Core b g.state
  pub least : d.total ≤ g.state.total
  pub most : g.state.total ≤ d.total + 16 * n

pub ends_run : {R A : Type 0} {P : A → Type 0} {n : ℕ} {t : Asks R A} → Ends P n t → (b : List ℕ) (d : Dec) → Bytes b → Core b d → Ended b d P n (run b d t)
unfolding run
ends_run (ends e) b d y c = record { holds = e; core = c; least = omega arith; most = omega arith }
ends_run (asks {m = m} o l f) b d y c =
    let g = grows b m d y o c in
    let r = ends_run (f (read_val b m d) (read_inside b m d o)) b (read_next b m d) y g.core in
    record { holds = r.holds; core = r.core; least = omega (arith, g.least, r.least); most = omega (arith, g.most, r.most, l) }

-- ---- ways through trees

pub ends_more : {R A : Type 0} {P : A → Type 0} {n m : ℕ} {t : Asks R A} → n ≤ m → Ends P n t → Ends P m t
ends_more l (ends e) = ends e
ends_more {m = zero} l (asks o g f) = absurd (not-suc-le-zero l)
ends_more {m = suc m} l (asks o g f) = asks o g (λ v i. ends_more (le_of_suc-le-suc l) (f v i))

pub ends_in : {R A : Type 0} {P Q : A → Type 0} {n : ℕ} {t : Asks R A} → ((x : A) → P x → Q x) → Ends P n t → Ends Q n t
ends_in h (ends {x = x} e) = ends (h x e)
ends_in h (asks o g f) = asks o g (λ v i. ends_in h (f v i))

pub ends_then : {R A B : Type 0} {P : A → Type 0} {Q : B → Type 0} {n m : ℕ} {t : Asks R A} (g : A → Asks R B)
    → Ends P n t → ((x : A) → P x → Ends Q m (g x)) → Ends Q (n + m) (then t g)
unfolding then
ends_then {n = n} {m = m} g (ends {x = x} e) h = ends_more (omega arith) (h x e)
ends_then {Q = Q} {n = suc n} {m = m} g (asks {m = q} {w = w} {f = f} o l k) h =
    let p : suc (n + m) ≡ suc n + m = omega arith in
    subst (λ (j : ℕ). Ends Q j (ask q w (λ v. then (f v) g))) p (asks o l (λ v i. ends_then g (k v i) h))

pub ends_of : {Q R A : Type 0} {P : A → Type 0} {n : ℕ} {t : Asks Q A} (h : R → Q) → Ends P n t → Ends P n (of h t)
unfolding of
ends_of h (ends e) = ends e
ends_of h (asks o l f) = asks o l (λ v i. ends_of h (f v i))
