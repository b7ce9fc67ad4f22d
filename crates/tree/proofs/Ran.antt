-- What a decoder that runs a tree promises, and how its parts' promises are put together as its code is: a result,
-- one more question in front, a tree in front of a tree. Assumes nothing.
use Prim.Native.Nat.{ℕ, ◌+◌, ◌≤◌}
use mathlib.Core.Path.{◌≡◌, refl, sym, ap, ◌∙◌}
use mathlib.Core.List.{List}
use native.Mathlib.Omega.{arith}
use Rattle.entcode.specs.declared.Dec.{Dec}
use Rattle.entcode.specs.declared.Decoded.{Decoded}
use Rattle.entcode.specs.Models.{tab}
use Rattle.entcode.specs.Inner.Reading.{Core, Took}
use Rattle.tree.specs.Asks.{Asks, done, ask, then, Got, got, run}
use Rattle.tree.proofs.AsksLaws.{run_then}
use Rattle.tree.specs.Inner.Ran.{Ran}

-- a question by a row u, answered from the row r that was lent: the rest of the tree runs on the answer
pub asked : {R A : Type 0} (b : List ℕ) (d : Dec) (r u : List ℕ) (w : R → ℕ) (g : ℕ → Asks R A) (a : Decoded) → r ≡ u → Took b (tab 8 r) d a
    → run b a.state (g a.value) ≡ run b d (ask (tab 8 u) w g)
unfolding run
asked b d r u w g a e h = rw (h.is, e)

-- the same for a tree in front of a tree
pub ran_then : {R A B : Type 0} (b : List ℕ) (d z : Dec) (t : Asks R A) (g : A → Asks R B) (x : A) → run b d t ≡ got x z
    → run b z (g x) ≡ run b d (then t g)
ran_then b d z t g x e = sym (run_then b d t g ∙ ap (λ (q : Got _). run b q.state (g q.value)) e)

pub ran_done : {R A : Type 0} {b : List ℕ} {d : Dec} {x : A} → Core b d → Ran {R = R} b d (done x) 0 x d
unfolding run
ran_done h = record { is = refl; core = h; least = omega arith; most = omega arith }

pub ran_ask : {R A : Type 0} {b : List ℕ} {d : Dec} {r u : List ℕ} {w : R → ℕ} {g : ℕ → Asks R A} {a : Decoded} {n : ℕ} {x : A} {z : Dec}
    → r ≡ u → Took b (tab 8 r) d a → Ran b a.state (g a.value) n x z → Ran b d (ask (tab 8 u) w g) (16 + n) x z
ran_ask {w = w} {g = g} e h p =
    record { is = sym (asked _ _ _ _ w g _ e h) ∙ p.is; core = p.core; least = omega (arith, h.least, p.least); most = omega (arith, h.most, p.most) }

pub ran_bind : {R A B : Type 0} {b : List ℕ} {d z w : Dec} {t : Asks R A} (g : A → Asks R B) {n m : ℕ} {x : A} {y : B}
    → Ran b d t n x z → Ran b z (g x) m y w → Ran b d (then t g) (n + m) y w
ran_bind {t = t} g p q =
    record { is = sym (ran_then _ _ _ t g _ p.is) ∙ q.is; core = q.core; least = omega (arith, p.least, q.least); most = omega (arith, p.most, q.most) }

pub ran_within : {R A : Type 0} {b : List ℕ} {d z : Dec} {t : Asks R A} {n m : ℕ} {x : A} → n ≤ m → Ran b d t n x z → Ran b d t m x z
ran_within l p = record { is = p.is; core = p.core; least = p.least; most = omega (arith, p.most) }
