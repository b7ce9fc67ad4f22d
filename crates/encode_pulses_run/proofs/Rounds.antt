-- The turns of a loop over the blocks of a slice of pulses, as the writer makes them: splits, low bits and signs take them alike. The buffer
-- keeps its length. Assumes nothing.
use Prim.Native.Nat.{ℕ, ◌+◌, ◌*◌, ◌<◌, ◌≤◌}
use mathlib.Core.Path.{◌≡◌, refl, ◌∙◌}
use mathlib.Core.List.{List, [], ◌∷◌, ◌++◌}
use native.Mathlib.Omega.{arith}
use borrow.Rule.Slice.PartMut.{mid_len}
use lib.IntN.{ℤ}
use lib.ListN.{length}
use Rattle.entcode.specs.Flat.{Out}
use Rattle.entcode.specs.Inner.Writing.{Core}
use Rattle.tree.specs.Asks.{Asks, symbols}
use Rattle.tree.specs.Inner.Told.{Told}
use Rattle.silk.specs.PulseSyntax.{Block, rows16}
use Rattle.silk.specs.Inner.Pulses.{block_at, blocks_from}
use Rattle.silk.proofs.PulseRounds.{block_of}
use Rattle.silk.proofs.PulseTelling.{Telling, telling_start, telling_next, telling_end}

-- a block of a slice of n blocks
pub block_size : (v : List ℤ) (n i : ℕ) → length v ≡ n * 16 → i < n → length (block_of v i) ≡ 16
block_size v n i e h = mid_len (i * 16) (i * 16 + 16) v (omega arith) ∙ omega arith

module _ {R Q A B : Type 0} {hand : List Block → List (List ℤ) → R} {tree : List Block → List (List ℤ) → Asks R A} {part : Block → List ℤ → Q}
    {turn : Block → List ℤ → Asks Q B} {w : ℕ}
    {one_more : (b : Block) (bs : List Block) (p : List ℤ) (ps : List (List ℤ))
    → symbols (hand (b ∷ bs) (p ∷ ps)) (tree (b ∷ bs) (p ∷ ps)) ≡ symbols (part b p) (turn b p) ++ symbols (hand bs ps) (tree bs ps)}
    {no_more : (ps : List (List ℤ)) → symbols (hand [] ps) (tree [] ps) ≡ []} {o : Out} {c l : List ℕ} {v : List ℤ} {n : ℕ} where
  pub round_start : Core o → Telling hand tree part turn w one_more no_more o c l v n o 0 × (length o.buf ≡ length o.buf)
  round_start h = (telling_start hand tree part turn w one_more no_more o c l v n h, refl)

  pub round_next : {q z : Out} {i : ℕ} → Telling hand tree part turn w one_more no_more o c l v n q i × (length q.buf ≡ length o.buf) → i < n
      → Told q (part (block_at c l i) (block_of v i)) (turn (block_at c l i) (block_of v i)) w z → length z.buf ≡ length q.buf
      → Telling hand tree part turn w one_more no_more o c l v n z (i + 1) × (length z.buf ≡ length o.buf)
  round_next g h t e = (telling_next hand tree part turn w one_more no_more o c l v n g.0 h t, e ∙ g.1)

  pub round_end : {q : Out} {i : ℕ} → Telling hand tree part turn w one_more no_more o c l v n q i × (length q.buf ≡ length o.buf) → n ≤ i
      → Told o (hand (blocks_from c l 0 n) (rows16 n v)) (tree (blocks_from c l 0 n) (rows16 n v)) (w * n) q
  round_end g h = telling_end hand tree part turn w one_more no_more o c l v n g.0 h
