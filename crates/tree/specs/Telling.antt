-- Writing along a tree: the symbols one after the other, and whether each may be written. Assumes nothing.
use Rattle.std.specs.Prelude.{Bool, true, ◌&&◌, List, [], ◌∷◌, eqb}
use Rattle.entcode.specs.Models.{Sym}
use Rattle.entcode.specs.Rules.{say_rule}
use Rattle.entcode.specs.Flat.{Out}
use Rattle.entcode.specs.Writing.{written}

-- the buffer and the writer behind some symbols
unfoldable pub written_all : Out → List Sym → Out
written_all o [] = o
written_all o (q ∷ l) = written_all (written o q) l

-- every symbol may be written
unfoldable pub all_said : List Sym → Bool
all_said [] = true
all_said (q ∷ l) = eqb (say_rule q.model q.value) 0 && all_said l
