-- What symbols that may be written along a tree lead to. Assumes nothing.
use Prim.Native.Nat.{ℕ}
use mathlib.Core.Path.{◌≡◌, refl}
use mathlib.Core.Bool.{true}
use mathlib.Core.List.{List, [], ◌∷◌, ◌++◌}
use borrow.Author.Tests.{eqb-true}
use lib.Dec.{eqb}
use Rattle.deciding.proofs.Both.{and_both, both_and}
use Rattle.entcode.specs.Models.{Model, bit, raw, num, tab, Sym, Fitting}
use Rattle.entcode.specs.Rules.{say_rule}
use Rattle.entcode.specs.Inner.Reading.{Inside}
use Rattle.entcode.specs.Flat.{Out}
use Rattle.entcode.specs.Writing.{written}
use Rattle.entcode.proofs.WritingLaws.{say_open}
use Rattle.tree.specs.Asks.{Asks, symbols, meant}
use Rattle.tree.proofs.Outcomes.{Ends, ends, asks}
use Rattle.tree.specs.Telling.{written_all, all_said}

-- ---- lists behind lists

pub written_append : (o : Out) (k l : List Sym) → written_all o (k ++ l) ≡ written_all (written_all o k) l
unfolding written_all
written_append o [] l = refl
written_append o (q ∷ k) l = written_append (written o q) k l

pub said_front : (k l : List Sym) → all_said (k ++ l) ≡ true → all_said k ≡ true
unfolding all_said
said_front [] l e = refl
said_front (q ∷ k) l e =
    let p = and_both (eqb (say_rule q.model q.value) 0) (all_said (k ++ l)) e in both_and _ _ p.0 (said_front k l p.1)

pub said_back : (k l : List Sym) → all_said (k ++ l) ≡ true → all_said l ≡ true
unfolding all_said
said_back [] l e = e
said_back (q ∷ k) l e = said_back k l (and_both (eqb (say_rule q.model q.value) 0) (all_said (k ++ l)) e).1

pub said_both : (k l : List Sym) → all_said k ≡ true → all_said l ≡ true → all_said (k ++ l) ≡ true
unfolding all_said
said_both [] l a b = b
said_both (q ∷ k) l a b =
    let p = and_both (eqb (say_rule q.model q.value) 0) (all_said k) a in both_and _ _ p.0 (said_both k l p.1 b)

-- ---- a value that may be written is one of its model's

pub fits_inside : (m : Model) (v : ℕ) → Fitting m v → Inside m v
fits_inside (bit lp) v h = h
fits_inside (raw n) v h = h
fits_inside (num ft) v h = h
fits_inside (tab scale t) v h = h.inside

-- so what the symbols mean is what every way through the tree ends in
pub ends_meant : {R A : Type 0} {P : A → Type 0} {n : ℕ} {t : Asks R A} (y : R) → Ends P n t → all_said (symbols y t) ≡ true → P (meant y t)
unfolding symbols meant all_said
ends_meant y (ends e) h = e
ends_meant y (asks {m = m} {w = w} o l f) h =
    let p = and_both (eqb (say_rule m (w y)) 0) _ h in
    ends_meant y (f (w y) (fits_inside m (w y) (say_open m (w y) (eqb-true _ _ p.0)).fitting)) p.1
