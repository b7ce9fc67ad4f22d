-- Lines of blocks, one more at the end. Assumes nothing.
use Prim.Native.Nat.{ℕ, zero, suc, ◌+◌, ◌*◌}
use mathlib.Core.Path.{◌≡◌, sym, ap, ◌∙◌}
use mathlib.Core.List.{List, ◌++◌, append_assoc, append-nil}
use native.Mathlib.Omega.{arith}
use lib.IntN.{ℤ}
use lib.ListN.{take, drop}
use lib.Seq.{drop-drop}
use Rattle.listing.specs.Lines.{numbers}
use Rattle.frame_text.specs.FrameText.{block_lines}

pub block_more : (n : ℕ) (p : List ℤ) → block_lines n p ++ numbers (take 16 (drop (16 * n) p)) ≡ block_lines (suc n) p
unfolding block_lines
block_more zero p = sym (append-nil (numbers (take 16 p)))
block_more (suc n) p =
    let e : 16 + 16 * n ≡ 16 * suc n = omega arith in
    append_assoc (numbers (take 16 p)) (block_lines n (drop 16 p)) (numbers (take 16 (drop (16 * suc n) p)))
    ∙ ap (λ (l : List ℕ). numbers (take 16 p) ++ l)
    (ap (λ (l : List ℤ). block_lines n (drop 16 p) ++ numbers (take 16 l)) (ap (λ (k : ℕ). drop k p) (sym e) ∙ sym (drop-drop (16 * n) 16 p))
    ∙ block_more n (drop 16 p))
