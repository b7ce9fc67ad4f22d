-- From a reader that follows a writer through a list of symbols to one that gives a part of it: behind any symbols, and with any behind. Assumes nothing.
use Prim.Native.Nat.{ℕ}
use mathlib.Core.Path.{◌≡◌, refl, ◌∙◌}
use mathlib.Core.List.{List, [], ◌∷◌, ◌++◌}
use Rattle.entcode.specs.declared.Dec.{Dec}
use Rattle.entcode.specs.Models.{Sym}
use Rattle.entcode.specs.Reader.{read_next}
use Rattle.entcode.specs.Writer.{Writer, write_sym, write_all}
use Rattle.roundtrip.proofs.ReadBack.{Follows, Any}
use Rattle.tree.proofs.AsksLaws.{Gives}

-- the reader behind some symbols
abbrev pub read_all : List ℕ → Dec → List Sym → Dec
read_all b d [] = d
read_all b d (s ∷ l) = read_all b (read_next b s.model d) l

-- it gave the symbols l, without error, and follows the writer on through the symbols r
pub record Gave (b : List ℕ) (d : Dec) (w : Writer) (l r : List Sym) : Type 0 where
  pub gives : Gives b d l (read_all b d l)
  pub error : (read_all b d l).error ≡ 0
  pub rest : Follows Any b (read_all b d l) (write_all w l) r

pub gave : (b : List ℕ) (l r : List Sym) (d : Dec) (w : Writer) → d.error ≡ 0 → Follows Any b d w (l ++ r) → Gave b d w l r
gave b [] r d w z f = record { gives = refl; error = z; rest = f }
gave b (s ∷ l) r d w z f =
    let g = gave b l r (read_next b s.model d) (write_sym w s) (f.0.error tt ∙ z) f.1 in
    record { gives = (f.0.value tt, g.gives); error = g.error; rest = g.rest }
