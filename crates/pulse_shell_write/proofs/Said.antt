-- The splits of a block, one after the other, say what its shell says, and those without pulses say nothing. Assumes nothing.
use Prim.Native.Nat.{ℕ, zero, suc, ◌-◌, ◌^◌}
use mathlib.Core.Path.{◌≡◌, refl, sym, ap, ap₂, ◌∙◌}
use mathlib.Core.List.{List, [], ◌∷◌, ◌++◌, map, append_assoc, append-nil}
use native.Mathlib.Omega.{arith}
use lib.ListN.{take, drop}
use Rattle.entcode.specs.Models.{Sym}
use Rattle.tree.specs.Asks.{Asks, symbols, done, then, of}
use Rattle.tree.proofs.AsksLaws.{symbols_then, symbols_of, symbols_cons}
use Rattle.silk.specs.PulseSyntax.{each, head_of, tail_of, total, split, shell}
use Rattle.silk.proofs.PulseWritten.{split_meant, total_parts}
use borrow.Author.Tests.{eqb-true}
use lib.Dec.{eqb}
use Rattle.deciding.proofs.Choice.{chosen}
use Rattle.entcode.specs.Flat.{Out}
use Rattle.tree.specs.Inner.Told.{Told}
use Rattle.pulse_shell_splits.specs.Inner.{Part, parts_of, all_of}
use Rattle.pulse_shell_spoken.specs.Inner.{no_part, spoken}

-- a split, of the part that it splits
abbrev pub split_of : Part → Asks Part ℕ
split_of q = of (λ r. r.places) (split q.table (all_of q))

abbrev pub itself : Part → Part
itself q = q

-- of some parts
abbrev pub said : List Part → List Sym
said qs = symbols qs (each no_part split_of (map itself qs))

pub said_cons : (q : Part) (qs : List Part) → said (q ∷ qs) ≡ symbols q.places (split q.table (all_of q)) ++ said qs
unfolding each
said_cons q qs =
    symbols_cons (q ∷ qs) (head_of no_part) (split_of q) tail_of (each no_part split_of (map itself qs))
    ∙ ap (λ (l : List Sym). l ++ said qs) (symbols_of q (λ r. r.places) (split q.table (all_of q)))

said_append : (qs rs : List Part) → said (qs ++ rs) ≡ said qs ++ said rs
unfolding each symbols
said_append [] rs = refl
said_append (q ∷ qs) rs =
    let s = symbols q.places (split q.table (all_of q)) in
    said_cons q (qs ++ rs) ∙ ap (λ (l : List Sym). s ++ l) (said_append qs rs) ∙ sym (append_assoc s (said qs) (said rs))
    ∙ ap (λ (l : List Sym). l ++ said rs) (sym (said_cons q qs))

-- both halves of c pulses, v of them in the left half
abbrev halves : ℕ → ℕ → ℕ → Asks (List ℕ) (List ℕ)
halves k c v = then (of (take (2 ^ k)) (shell k v)) (λ a. then (of (drop (2 ^ k)) (shell k (c - v))) (λ b. done (a ++ b)))

pub shell_said : (n c : ℕ) (y : List ℕ) → total y ≡ c → symbols y (shell n c) ≡ said (parts_of n y)
unfolding shell parts_of each symbols
shell_said zero c y e = refl
shell_said (suc k) c y e =
    let l = total (take (2 ^ k) y) in
    let here = symbols y (split k c) in
    let left = parts_of k (take (2 ^ k) y) in
    let right = parts_of k (drop (2 ^ k) y) in
    let both : symbols y (halves k c l) ≡ said left ++ said right =
    symbols_then y (of (take (2 ^ k)) (shell k l)) _
    ∙ ap₂ (λ (a b : List Sym). a ++ b) (symbols_of y (take (2 ^ k)) (shell k l) ∙ shell_said k l (take (2 ^ k) y) refl)
    (symbols_then y (of (drop (2 ^ k)) (shell k (c - l))) _
    ∙ append-nil _
    ∙ symbols_of y (drop (2 ^ k)) (shell k (c - l))
    ∙ shell_said k (c - l) (drop (2 ^ k) y) (omega (arith, total_parts (2 ^ k) y))) in
    symbols_then y (split k c) _
    ∙ ap (λ (v : ℕ). here ++ symbols y (halves k c v)) (split_meant k c y e)
    ∙ ap (λ (r : List Sym). here ++ r) (both ∙ sym (said_append left right))
    ∙ ap (λ (d : ℕ). symbols y (split k d) ++ said (left ++ right)) (sym e)
    ∙ sym (said_cons (record { table = k; places = y }) (left ++ right))

-- ---- those that have pulses

silent : (y : List ℕ) (k c : ℕ) → c ≡ 0 → symbols y (split k c) ≡ []
unfolding split symbols
silent y k c e = rw e

spoken_said : (qs : List Part) → said qs ≡ said (spoken qs)
unfolding spoken
spoken_said [] = refl
spoken_said (q ∷ qs) =
    chosen (λ (rs : List Part). said (q ∷ qs) ≡ said rs) (eqb (all_of q) 0)
    (λ t. said_cons q qs ∙ ap (λ (l : List Sym). l ++ said qs) (silent q.places q.table (all_of q) (eqb-true _ _ t)) ∙ spoken_said qs)
    (λ t.
    said_cons q qs
    ∙ ap (λ (l : List Sym). symbols q.places (split q.table (all_of q)) ++ l) (spoken_said qs)
    ∙ sym (said_cons q (spoken qs)))

-- what was said of the parts with pulses was said of the shell
pub shell_told : {o q : Out} {m : ℕ} (n c : ℕ) (y : List ℕ) → total y ≡ c
    → let qs = spoken (parts_of n y) in
    Told o qs (each no_part split_of (map itself qs)) m q → Told o y (shell n c) m q
shell_told n c y e t =
    record { is = rw (shell_said n c y e, spoken_said (parts_of n y)) t.is; core = t.core; least = t.least; most = t.most }
