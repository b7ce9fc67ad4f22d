-- Two trees that ask the same questions of the writer of y, and whose results are related: what y says along both is the same. Assumes nothing.
use Prim.Native.Nat.{ℕ}
use mathlib.Core.Path.{◌≡◌, refl, ap}
use mathlib.Core.List.{List, ◌∷◌}
use Rattle.entcode.specs.Models.{Model, Sym}
use Rattle.tree.specs.Asks.{Asks, done, ask, then, symbols, meant}

pub data Alike {R A B : Type 0} (y : R) (P : A → B → Type 0) : Asks R A → Asks R B → Type 0 where
  ended : {a : A} {b : B} → P a b → Alike y P (done a) (done b)
  asked : {m : Model} {w : R → ℕ} {f : ℕ → Asks R A} {g : ℕ → Asks R B} → Alike y P (f (w y)) (g (w y)) → Alike y P (ask m w f) (ask m w g)

pub alike_symbols : {R A B : Type 0} {y : R} {P : A → B → Type 0} {t : Asks R A} {u : Asks R B} → Alike y P t u → symbols y t ≡ symbols y u
unfolding symbols
alike_symbols (ended p) = refl
alike_symbols {y = y} (asked {m = m} {w = w} h) = ap {B = List Sym} (λ (l : List Sym). record { model = m; value = w y } ∷ l) (alike_symbols h)

pub alike_meant : {R A B : Type 0} {y : R} {P : A → B → Type 0} {t : Asks R A} {u : Asks R B} → Alike y P t u → P (meant y t) (meant y u)
unfolding meant
alike_meant (ended p) = p
alike_meant (asked h) = alike_meant h

pub alike_in : {R A B : Type 0} {y : R} {P Q : A → B → Type 0} {t : Asks R A} {u : Asks R B} → ((a : A) (b : B) → P a b → Q a b) → Alike y P t u → Alike y Q t u
alike_in k (ended {a = a} {b = b} p) = ended (k a b p)
alike_in k (asked h) = asked (alike_in k h)

pub alike_then : {R A B C D : Type 0} {y : R} {P : A → B → Type 0} {Q : C → D → Type 0} {t : Asks R A} {u : Asks R B} (f : A → Asks R C) (g : B → Asks R D)
    → Alike y P t u → ((a : A) (b : B) → P a b → Alike y Q (f a) (g b)) → Alike y Q (then t f) (then u g)
unfolding then
alike_then f g (ended {a = a} {b = b} p) k = k a b p
alike_then f g (asked h) k = asked (alike_then f g h k)

-- one tree in front of both
pub alike_behind : {R A C D : Type 0} {y : R} {Q : C → D → Type 0} (t : Asks R A) (f : A → Asks R C) (g : A → Asks R D)
    → ((a : A) → Alike y Q (f a) (g a)) → Alike y Q (then t f) (then t g)
unfolding then
alike_behind (done x) f g k = k x
alike_behind {y = y} (ask m w h) f g k = asked (alike_behind (h (w y)) f g k)
