-- The turns of a loop over a slice of magnitudes, block by block: low bits and signs take them alike. Assumes nothing.
use Prim.Native.Nat.{ℕ, ◌+◌, ◌*◌, ◌<◌, ◌≤◌}
use mathlib.Core.Path.{◌≡◌, sym, ap, subst, ◌∙◌}
use mathlib.Core.List.{List, [], ◌∷◌, map}
use native.Mathlib.Omega.{arith}
use lib.IntN.{ℤ, pos}
use lib.ListN.{length, length-map}
use Rattle.entcode.specs.declared.Dec.{Dec}
use Rattle.entcode.specs.Inner.Reading.{Core}
use Rattle.tree.specs.Asks.{Asks, got, run}
use Rattle.tree.specs.Inner.Ran.{Ran}
use Rattle.tree.proofs.Through.{before}
use Rattle.silk.specs.PulseSyntax.{Block, rows16}
use Rattle.silk.specs.Inner.Pulses.{block_at, blocks_from, mags, mags_pos, Natural, natural, Sixteen, Turned, Held}
use Rattle.silk.proofs.PulseBlocks.{held_flat, held_counted}
use Rattle.silk.proofs.PulseRounds.{Working, AtHand, block_of, with_block, working_start, working_here, working_next, working_size, working_ended, working_end}

module _ {Q T A : Type 0} {f : A → ℤ} {P : List ℕ → Type 0} {wide : (v : List ℕ) → P v → length v ≡ 16} {t : Block → List ℕ → Asks T (List A)}
    {tree : List Block → List (List ℕ) → Asks Q (List (List A))} {w : ℕ}
    {one_more : (b : List ℕ) (d z : Dec) (k : Block) (bs : List Block) (v : List ℕ) (vs : List (List ℕ)) (x : List A)
    → run b d (t k v) ≡ got x z → run b d (tree (k ∷ bs) (v ∷ vs)) ≡ before (x ∷ []) (run b z (tree bs vs))}
    {no_block : (b : List ℕ) (d : Dec) (vs : List (List ℕ)) → run b d (tree [] vs) ≡ got [] d} {b : List ℕ} {d₀ : Dec} {c l : List ℕ} {n : ℕ} where
  pub round_start : {s : List ℤ} → Held P n s → Core b d₀ → Working f P wide t tree w one_more no_block b d₀ c l (rows16 n (mags s)) n s d₀ 0
  round_start {s = s} h k =
      working_start f P wide t tree w one_more no_block b d₀ c l (rows16 n (mags s)) n s (held_flat h) h.all (held_counted n s) k

  module _ {ms : List (List ℕ)} {s : List ℤ} {d : Dec} {i : ℕ} (g : Working f P wide t tree w one_more no_block b d₀ c l ms n s d i) where
    pub round_kept : n ≤ i → length s ≡ n * 16
    round_kept h = working_ended f P wide t tree w one_more no_block b d₀ c l ms n s d i g h

    pub round_end : n ≤ i → Turned f Sixteen b d₀ (tree (blocks_from c l 0 n) ms) w s d n
    round_end h = working_end f P wide t tree w one_more no_block b d₀ c l ms n s d i g h

    module _ (h : i < n) where
      pub round_fits : i * 16 + 16 ≤ length s
      round_fits = working_size f P wide t tree w one_more no_block b d₀ c l ms n s d i g h

      -- the block at hand
      here : AtHand f P wide t tree w one_more no_block b d₀ c l ms n s i
      here = working_here f P wide t tree w one_more no_block b d₀ c l ms n s d i g h

      pub round_natural : Natural (block_of s i)
      round_natural = natural here.value here.is

      pub round_has : P (mags (block_of s i))
      round_has = subst P (sym (ap mags here.is ∙ mags_pos here.value)) here.has

      pub round_size : length (block_of s i) ≡ 16
      round_size = ap length here.is ∙ length-map here.value pos ∙ wide here.value here.has

      -- it is worked on
      pub round_next : {x : List A} {y : List ℤ} {z : Dec} → y ≡ map f x → length y ≡ length (block_of s i)
          → Ran b d (t (block_at c l i) (mags (block_of s i))) w x z
          → Working f P wide t tree w one_more no_block b d₀ c l ms n (with_block s i y) z (i + 1)
      round_next {x = x} {y = y} {z = z} e q r =
          working_next f P wide t tree w one_more no_block b d₀ c l ms n s d i g h x y z w e (q ∙ round_size) (omega arith) r
