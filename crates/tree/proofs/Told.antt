-- What an encoder that writes along a tree promises, and how its parts' promises are put together as its code is:
-- nothing more to say, one more symbol in front, a tree in front of a tree; and how a loop goes through a tree.
-- Assumes nothing.
use Prim.Native.Nat.{ℕ, ◌+◌, ◌≤◌}
use mathlib.Core.Path.{◌≡◌, refl, sym, ap, ◌∙◌}
use mathlib.Core.List.{List, [], ◌∷◌, ◌++◌}
use native.Mathlib.Omega.{arith}
use Rattle.entcode.specs.Models.{Sym, tab}
use Rattle.entcode.specs.Flat.{Out}
use Rattle.entcode.specs.Inner.Writing.{Core, Wrote}
use Rattle.tree.specs.Asks.{Asks, done, ask, then, of, symbols, meant}
use Rattle.tree.proofs.AsksLaws.{symbols_then, symbols_of}
use Rattle.tree.specs.Telling.{written_all}
use Rattle.tree.proofs.TellingLaws.{written_append}
use Rattle.tree.specs.Inner.Told.{Told, Midway}

pub told_done : {R A : Type 0} {o : Out} {y : R} {x : A} → Core o → Told o y (done x) 0 o
unfolding symbols written_all
told_done h = record { is = refl; core = h; least = omega arith; most = omega arith }

-- a symbol of a row u, written by the row r that was lent: what follows is told of the value that was written
pub told_ask : {R A : Type 0} {o p q : Out} {y : R} {r u : List ℕ} {w : R → ℕ} {g : ℕ → Asks R A} {v n : ℕ}
    → r ≡ u → v ≡ w y → Wrote o (record { model = tab 8 r; value = v }) p → Told p y (g v) n q → Told o y (ask (tab 8 u) w g) (16 + n) q
unfolding symbols written_all
told_ask e f h k =
    record { is = rw (sym e, sym f, sym h.is) k.is; core = k.core; least = omega (arith, h.least, k.least); most = omega (arith, h.most, k.most) }

pub told_then : {R A B : Type 0} {o p q : Out} {y : R} {t : Asks R A} (g : A → Asks R B) {x : A} {n m : ℕ}
    → meant y t ≡ x → Told o y t n p → Told p y (g x) m q → Told o y (then t g) (n + m) q
told_then {o = o} {p = p} {y = y} {t = t} g e h k =
    record {
      is = rw (symbols_then y t g, e, written_append o (symbols y t) (symbols y (g _)), sym h.is) k.is;
      core = k.core;
      least = omega (arith, h.least, k.least);
      most = omega (arith, h.most, k.most);
    }

-- a part of a tree for a part of a record
pub told_of : {Q R A : Type 0} {o q : Out} {y : R} {t : Asks Q A} {n : ℕ} (h : R → Q) → Told o (h y) t n q → Told o y (of h t) n q
told_of {o = o} {y = y} {t = t} h p = record { is = rw (symbols_of y h t) p.is; core = p.core; least = p.least; most = p.most }

pub told_within : {R A : Type 0} {o q : Out} {y : R} {t : Asks R A} {n m : ℕ} → n ≤ m → Told o y t n q → Told o y t m q
told_within l p = record { is = p.is; core = p.core; least = p.least; most = omega (arith, p.most) }

-- ---- loops: what is said along the whole tree from o is what is said along the rest from p

pub midway_start : {R A : Type 0} {o : Out} {y : R} {t : Asks R A} {n : ℕ} → Core o → Midway o y t n o y t
midway_start h = record { is = refl; core = h; least = omega arith; most = omega arith }

-- a turn tells a tree t, and what was left is what t says and then what is left now
pub midway_next : {R A Q B P C S D : Type 0} {o p q : Out} {y : R} {whole : Asks R A} {n m k : ℕ} {z : Q} {left : Asks Q B} {u : P} {t : Asks P C}
    {v : S} {next : Asks S D} → Midway o y whole n p z left → Told p u t m q → symbols z left ≡ symbols u t ++ symbols v next → n + m ≤ k
    → Midway o y whole k q v next
midway_next {p = p} {u = u} {t = t} {v = v} {next = next} h f e l =
    record {
      is = h.is ∙ ap (λ (s : List Sym). written_all p s) e ∙ written_append p (symbols u t) (symbols v next) ∙ rw (sym f.is);
      core = f.core;
      least = omega (arith, h.least, f.least);
      most = omega (arith, h.most, f.most);
    }

-- a turn writes one symbol of a row u, by the row r that was lent
pub midway_ask : {R A Q B S D : Type 0} {o p q : Out} {y : R} {whole : Asks R A} {n k : ℕ} {z : Q} {left : Asks Q B} {r u : List ℕ} {v a : ℕ}
    {w : S} {next : Asks S D} → Midway o y whole n p z left → r ≡ u → v ≡ a → Wrote p (record { model = tab 8 r; value = v }) q
    → symbols z left ≡ record { model = tab 8 u; value = a } ∷ symbols w next → n + 16 ≤ k → Midway o y whole k q w next
unfolding written_all
midway_ask {p = p} {w = w} {next = next} h e f g i l =
    record {
      is = h.is ∙ ap (λ (s : List Sym). written_all p s) i ∙ rw (sym e, sym f) (ap (λ (t : Out). written_all t (symbols w next)) (sym g.is));
      core = g.core;
      least = omega (arith, h.least, g.least);
      most = omega (arith, h.most, g.most);
    }

-- what is left begins with the question
pub midway_asked : {R A Q B : Type 0} {o p q : Out} {y : R} {whole : Asks R A} {n k : ℕ} {z : Q} {r u : List ℕ} {w : Q → ℕ} {g : ℕ → Asks Q B} {v : ℕ}
    → Midway o y whole n p z (ask (tab 8 u) w g) → r ≡ u → v ≡ w z → Wrote p (record { model = tab 8 r; value = v }) q → n + 16 ≤ k
    → Midway o y whole k q z (g (w z))
unfolding symbols
midway_asked h e f t l = midway_ask h e f t refl l

pub midway_end : {R A Q B : Type 0} {o p : Out} {y : R} {whole : Asks R A} {n : ℕ} {z : Q} {left : Asks Q B}
    → Midway o y whole n p z left → symbols z left ≡ [] → Told o y whole n p
unfolding written_all
midway_end {p = p} h e =
    record { is = sym (h.is ∙ ap (λ (s : List Sym). written_all p s) e); core = h.core; least = h.least; most = h.most }
