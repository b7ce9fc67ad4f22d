-- The loops over the blocks of a frame that the pulse writer makes, turn by turn: what is to be said of i blocks is
-- written, that of the others is left. Assumes nothing.
use Prim.Native.Nat.{ℕ, suc, ◌+◌, ◌-◌, ◌*◌, ◌<◌, ◌≤◌}
use mathlib.Core.Path.{◌≡◌, refl, sym, ap, ap₂, subst, ◌∙◌}
use mathlib.Core.List.{List, [], ◌∷◌, ◌++◌, map}
use native.Mathlib.Nat.{sub-zero}
use native.Mathlib.Omega.{arith}
use lib.IntN.{ℤ, nat_abs}
use lib.ListN.{take, drop}
use lib.Seq.{drop-drop}
use Rattle.entcode.specs.Flat.{Out}
use Rattle.entcode.specs.Inner.Writing.{Core}
use Rattle.tree.specs.Asks.{Asks, symbols}
use Rattle.tree.proofs.AsksLaws.{symbols_cons}
use Rattle.tree.specs.Inner.Told.{Told, Midway}
use Rattle.tree.proofs.Told.{midway_start, midway_next, midway_end}
use Rattle.silk.specs.PulseSyntax.{Block, head_of, tail_of, each, block_lows, block_signs, shifted, rows16}
use Rattle.silk.specs.Inner.Pulses.{block_at, blocks_from, shell_of, whole}
use Rattle.silk.proofs.PulseSteps.{blocks_end, blocks_left}
use Rattle.silk.proofs.PulseRounds.{block_of, lows_of, signs_of}
use Rattle.silk.specs.PulseWriting.{shifted_by}

-- the blocks of a slice from i on
rows_left : (v : List ℤ) (n i : ℕ) → i < n → rows16 (n - i) (drop (i * 16) v) ≡ block_of v i ∷ rows16 (n - (i + 1)) (drop ((i + 1) * 16) v)
unfolding rows16
rows_left v n i h =
    let e : n - i ≡ suc (n - (i + 1)) = omega arith in
    let f : i * 16 + 16 - i * 16 ≡ 16 = omega arith in
    let g : i * 16 + 16 ≡ (i + 1) * 16 = omega arith in
    rw (e, f)
    (ap {B = List (List ℤ)} (λ (d : List ℤ). take 16 (drop (i * 16) v) ∷ rows16 (n - (i + 1)) d) (drop-drop 16 (i * 16) v ∙ ap (λ (m : ℕ). drop m v) g))

-- a tree for blocks and their pulses, of at most w bits a block; for each block, what is in hand and the tree of that
-- block
module _ {R Q A B : Type 0} (hand : List Block → List (List ℤ) → R) (tree : List Block → List (List ℤ) → Asks R A) (part : Block → List ℤ → Q)
    (turn : Block → List ℤ → Asks Q B) (w : ℕ)
    (one_more : (b : Block) (bs : List Block) (p : List ℤ) (ps : List (List ℤ))
    → symbols (hand (b ∷ bs) (p ∷ ps)) (tree (b ∷ bs) (p ∷ ps)) ≡ symbols (part b p) (turn b p) ++ symbols (hand bs ps) (tree bs ps))
    (no_more : (ps : List (List ℤ)) → symbols (hand [] ps) (tree [] ps) ≡ [])
    (o : Out) (c l : List ℕ) (v : List ℤ) (n : ℕ) where
  -- i blocks are told
  pub record Telling (q : Out) (i : ℕ) : Type 0 where
    pub midway : Midway o (hand (blocks_from c l 0 n) (rows16 n v)) (tree (blocks_from c l 0 n) (rows16 n v)) (w * i) q
        (hand (blocks_from c l i (n - i)) (rows16 (n - i) (drop (i * 16) v)))
        (tree (blocks_from c l i (n - i)) (rows16 (n - i) (drop (i * 16) v)))
    pub to : i ≤ n

  pub telling_start : Core o → Telling o 0
  telling_start h =
      record {
        midway =
            subst (λ (m : ℕ). Midway o (hand (blocks_from c l 0 n) (rows16 n v)) (tree (blocks_from c l 0 n) (rows16 n v)) (w * 0) o
            (hand (blocks_from c l 0 m) (rows16 m v)) (tree (blocks_from c l 0 m) (rows16 m v)))
            (sym (sub-zero n)) (midway_start h);
        to = omega arith;
      }

  pub telling_next : {q z : Out} {i : ℕ} → Telling q i → i < n
      → Told q (part (block_at c l i) (block_of v i)) (turn (block_at c l i) (block_of v i)) w z → Telling z (i + 1)
  telling_next {i = i} g h t =
      record {
        midway =
            midway_next g.midway t
            (ap₂ (λ (bs : List Block) (ps : List (List ℤ)). symbols (hand bs ps) (tree bs ps)) (blocks_left c l n i h) (rows_left v n i h)
            ∙ one_more (block_at c l i) (blocks_from c l (i + 1) (n - (i + 1))) (block_of v i) (rows16 (n - (i + 1)) (drop ((i + 1) * 16) v)))
            (omega arith);
        to = omega arith;
      }

  pub telling_end : {q : Out} {i : ℕ} → Telling q i → n ≤ i → Told o (hand (blocks_from c l 0 n) (rows16 n v)) (tree (blocks_from c l 0 n) (rows16 n v)) (w * n) q
  telling_end {q = q} {i = i} g h =
      let e : i ≡ n = omega (arith, g.to) in
      let ps = rows16 (n - i) (drop (i * 16) v) in
      subst (λ (k : ℕ). Told o (hand (blocks_from c l 0 n) (rows16 n v)) (tree (blocks_from c l 0 n) (rows16 n v)) (w * k) q) e
      (midway_end g.midway (ap (λ (bs : List Block). symbols (hand bs ps) (tree bs ps)) (blocks_end c l n i h) ∙ no_more ps))

-- ---- splits, low bits, signs

module _ (b : Block) (bs : List Block) (p : List ℤ) (ps : List (List ℤ)) where
  pub splits_more : symbols (shifted (b ∷ bs) (whole (p ∷ ps))) (each [] shell_of (b ∷ bs))
      ≡ symbols (shifted_by b.lows p) (shell_of b) ++ symbols (shifted bs (whole ps)) (each [] shell_of bs)
  unfolding each shifted
  splits_more = symbols_cons (shifted_by b.lows p ∷ shifted bs (whole ps)) (head_of []) (shell_of b) tail_of (each [] shell_of bs)

  pub lows_more : symbols (whole (p ∷ ps)) (block_lows (b ∷ bs) (shifted (b ∷ bs) (whole (p ∷ ps))))
      ≡ symbols (map nat_abs p) (lows_of b (shifted_by b.lows p)) ++ symbols (whole ps) (block_lows bs (shifted bs (whole ps)))
  unfolding block_lows shifted
  lows_more = symbols_cons (whole (p ∷ ps)) (head_of []) (lows_of b (shifted_by b.lows p)) tail_of (block_lows bs (shifted bs (whole ps)))

  pub signs_more : (signal offset : ℕ) → symbols (p ∷ ps) (block_signs signal offset (b ∷ bs) (whole (p ∷ ps)))
      ≡ symbols p (signs_of signal offset b (map nat_abs p)) ++ symbols ps (block_signs signal offset bs (whole ps))
  unfolding block_signs
  signs_more signal offset = symbols_cons (p ∷ ps) (head_of []) (signs_of signal offset b (map nat_abs p)) tail_of (block_signs signal offset bs (whole ps))

pub silent_each : {P Q A : Type 0} (y : List Q) (e : Q) (f : P → Asks Q A) → symbols y (each e f []) ≡ []
unfolding each symbols
silent_each y e f = refl

pub silent_lows : (y vs : List (List ℕ)) → symbols y (block_lows [] vs) ≡ []
unfolding block_lows symbols
silent_lows y vs = refl

pub silent_signs : (y : List (List ℤ)) (signal offset : ℕ) (vs : List (List ℕ)) → symbols y (block_signs signal offset [] vs) ≡ []
unfolding block_signs symbols
silent_signs y signal offset vs = refl

-- i blocks of n, whose counts c, shifts l and pulses v are at hand, from the writer o on
module _ (o : Out) (c l : List ℕ) (v : List ℤ) (n : ℕ) where
  abbrev pub SplitsTelling : Out → ℕ → Type 0
  SplitsTelling =
      Telling (λ bs ps. shifted bs (whole ps)) (λ bs ps. each [] shell_of bs)
      (λ b p. shifted_by b.lows p) (λ b p. shell_of b) 240 splits_more
      (λ ps. silent_each (shifted [] (whole ps)) [] shell_of) o c l v n

  abbrev pub LowsTelling : Out → ℕ → Type 0
  LowsTelling =
      Telling (λ bs ps. whole ps) (λ bs ps. block_lows bs (shifted bs (whole ps)))
      (λ b p. map nat_abs p) (λ b p. lows_of b (shifted_by b.lows p)) 2560 lows_more
      (λ ps. silent_lows (whole ps) (shifted [] (whole ps))) o c l v n

  abbrev pub SignsTelling : ℕ → ℕ → Out → ℕ → Type 0
  SignsTelling signal offset =
      Telling (λ bs ps. ps) (λ bs ps. block_signs signal offset bs (whole ps))
      (λ b p. p) (λ b p. signs_of signal offset b (map nat_abs p)) 256
      (λ b bs p ps. signs_more b bs p ps signal offset) (λ ps. silent_signs ps signal offset (whole ps)) o c l v n
