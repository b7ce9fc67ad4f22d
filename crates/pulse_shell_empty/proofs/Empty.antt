-- A block without pulses: its splits ask nothing. Assumes nothing.
use Prim.Native.Nat.{ℕ}
use mathlib.Core.Path.{◌≡◌, refl}
use mathlib.Core.List.{List}
use lib.IntN.{pos}
use lib.ListN.{replicate}
use Rattle.entcode.specs.declared.Dec.{Dec}
use Rattle.entcode.specs.Inner.Reading.{Core}
use Rattle.tree.specs.Inner.Ran.{Ran}
use Rattle.silk.specs.PulseSyntax.{split, shell}
use Rattle.silk.specs.Inner.Pulses.{Placed}
use Rattle.silk.proofs.PulseSteps.{split_none, one_place, halves}

pub no_pulses : {b : List ℕ} {d : Dec} (p : ℕ) (n : ℕ) → p ≡ 0 → n ≡ 16 → Core b d → Placed b d (shell 4 p) 240 (replicate n (pos 0)) d
no_pulses {b = b} {d = d} p n e l h =
    let s : (k : ℕ) → Ran b d (split k 0) 16 0 d = λ k. split_none k 0 refl h in
    let one = one_place 0 h in
    let two = halves 0 0 (s 0) one one in
    let four = halves 1 0 (s 1) two two in
    let eight = halves 2 0 (s 2) four four in
    rw (e, l) (halves 3 0 (s 3) eight eight)
