-- How a loop goes through a tree that reads a list, one element a turn: what was read so far stands before what the
-- rest of the tree gives from here. Assumes nothing.
use Prim.Native.Nat.{ℕ, ◌+◌, ◌≤◌}
use mathlib.Core.Path.{◌≡◌, refl, sym, ap, ◌∙◌}
use mathlib.Core.List.{List, [], ◌∷◌, ◌++◌, append-nil, append_assoc}
use native.Mathlib.Omega.{arith}
use Rattle.entcode.specs.declared.Dec.{Dec}
use Rattle.entcode.specs.Inner.Reading.{Core}
use Rattle.tree.specs.Asks.{Asks, done, then, of, Got, got, run}
use Rattle.tree.proofs.AsksLaws.{run_then, run_of}
use Rattle.tree.specs.Inner.Ran.{Ran}
use Rattle.tree.proofs.Ran.{ran_then}

-- the elements xs, and behind them what g has
abbrev pub before : {A : Type 0} → List A → Got (List A) → Got (List A)
before xs g = got (xs ++ g.value) g.state

-- a part of a tree for a part of a record
pub ran_of : {Q R A : Type 0} {b : List ℕ} {d z : Dec} {t : Asks Q A} {n : ℕ} {x : A} (h : R → Q) → Ran b d t n x z → Ran b d (of h t) n x z
ran_of {t = t} h p = record { is = run_of _ _ h t ∙ p.is; core = p.core; least = p.least; most = p.most }

-- one element, then the others
pub run_cons : {P Q R A : Type 0} (b : List ℕ) (d z : Dec) (h : R → P) (t : Asks P A) (k : R → Q) (u : Asks Q (List A)) (x : A) → run b d t ≡ got x z
    → run b d (then (of h t) (λ a. then (of k u) (λ l. done (a ∷ l)))) ≡ before (x ∷ []) (run b z u)
unfolding run
run_cons {A = A} b d z h t k u x e =
    sym (ran_then b d z (of h t) (λ a. then (of k u) (λ l. done (a ∷ l))) x (run_of b d h t ∙ e))
    ∙ run_then b z (of k u) (λ l. done (x ∷ l))
    ∙ ap {B = Got (List A)} (λ (g : Got (List A)). got (x ∷ g.value) g.state) (run_of b z k u)

-- the whole tree from d has read xs, come to z, and the tree that is left reads on; the total grew by at most n
pub record Through {R Q A : Type 0} (b : List ℕ) (d : Dec) (whole : Asks R (List A)) (n : ℕ) (xs : List A) (z : Dec)
    (left : Asks Q (List A)) : Type 0 where
  pub is : run b d whole ≡ before xs (run b z left)
  pub core : Core b z
  pub least : d.total ≤ z.total
  pub most : z.total ≤ d.total + n

pub through_start : {R A : Type 0} {b : List ℕ} {d : Dec} {t : Asks R (List A)} {n : ℕ} → Core b d → Through b d t n [] d t
through_start h = record { is = refl; core = h; least = omega arith; most = omega arith }

pub through_next : {R Q P S A : Type 0} {b : List ℕ} {d z y : Dec} {whole : Asks R (List A)} {n m k : ℕ} {xs : List A} {left : Asks Q (List A)}
    {t : Asks P A} {x : A} (next : Asks S (List A)) → Through b d whole n xs z left → Ran b z t m x y → run b z left ≡ before (x ∷ []) (run b y next)
    → n + m ≤ k → Through b d whole k (xs ++ (x ∷ [])) y next
through_next {A = A} {b = b} {y = y} {xs = xs} {x = x} next h p e l =
    record {
      is = h.is
          ∙ ap {B = Got (List A)} (λ (g : Got (List A)). before xs g) e
          ∙ ap {B = Got (List A)} (λ (v : List A). got v (run b y next).state) (sym (append_assoc xs (x ∷ []) (run b y next).value));
      core = p.core;
      least = omega (arith, h.least, p.least);
      most = omega (arith, h.most, p.most);
    }

pub through_end : {R Q A : Type 0} {b : List ℕ} {d z : Dec} {whole : Asks R (List A)} {n : ℕ} {xs : List A} {left : Asks Q (List A)}
    → Through b d whole n xs z left → run b z left ≡ got [] z → Ran b d whole n xs z
through_end {A = A} {z = z} {xs = xs} h e =
    record {
      is = h.is
          ∙ ap {B = Got (List A)} (λ (g : Got (List A)). before xs g) e
          ∙ ap {B = Got (List A)} (λ (v : List A). got v z) (append-nil xs);
      core = h.core;
      least = h.least;
      most = h.most;
    }
