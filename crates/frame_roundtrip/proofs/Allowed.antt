-- Symbols that may all be written. Assumes nothing.
use mathlib.Core.Path.{◌≡◌}
use mathlib.Core.Bool.{true}
use mathlib.Core.List.{List, [], ◌∷◌, ◌++◌}
use borrow.Author.Tests.{eqb-true}
use lib.Dec.{eqb}
use Rattle.deciding.proofs.Both.{and_both}
use Rattle.entcode.specs.Models.{Sym}
use Rattle.entcode.specs.Rules.{say_rule}
use Rattle.entcode.proofs.WritingLaws.{say_open}
use Rattle.roundtrip.specs.Statement.{AllAllowed}
use Rattle.tree.specs.Telling.{all_said}

pub said_allowed : (l : List Sym) → all_said l ≡ true → AllAllowed l
unfolding all_said
said_allowed [] e = tt
said_allowed (q ∷ l) e =
    let p = and_both (eqb (say_rule q.model q.value) 0) (all_said l) e in
    (say_open q.model q.value (eqb-true _ _ p.0), said_allowed l p.1)

pub allowed_both : (k l : List Sym) → AllAllowed k → AllAllowed l → AllAllowed (k ++ l)
allowed_both [] l a b = b
allowed_both (q ∷ k) l a b = (a.0, allowed_both k l a.1 b)
