-- The parts of an excitation, read one after the other, are the excitation (RFC 6716, section 4.2.7.8). Assumes nothing.
use Prim.Native.Nat.{ℕ, ◌*◌, ◌≤◌}
use mathlib.Core.Path.{◌≡◌, subst, ◌∙◌}
use mathlib.Core.List.{List, flatten, map-id}
use native.Mathlib.Omega.{arith}
use lib.IntN.{ℤ}
use Rattle.sheet.specs.Directory.{rate_row}
use Rattle.entcode.specs.declared.Dec.{Dec}
use Rattle.entcode.specs.declared.Decoded.{Decoded}
use Rattle.entcode.specs.Models.{tab}
use Rattle.entcode.specs.Inner.Reading.{Took}
use Rattle.tree.specs.Inner.Ran.{Ran}
use Rattle.tree.proofs.Ran.{ran_ask, ran_bind, ran_done, ran_within}
use Rattle.tree.proofs.Through.{ran_of}
use Rattle.silk.specs.PulseSyntax.{counts, block_lows, block_signs, excitation, rows16}
use Rattle.silk.specs.Inner.Pulses.{blocks_from, mags, Small, Sixteen, Split, Lowered, Signed}
use Rattle.silk.proofs.PulseBlocks.{turned_rows}
use Rattle.decode_pulses_run.specs.Inner.{Excited}

module _ (b r : List ℕ) (d : Dec) (a : Decoded) (signal offset n : ℕ) (c l : List ℕ) (p q s : List ℤ) (z₁ z₂ z₃ z₄ : Dec) (few : n ≤ 20) where
  pub chain : r ≡ rate_row signal → Took b (tab 8 r) d a → Ran b a.state (counts a.value n) 3520 (blocks_from c l 0 n) z₁ → Split b z₁ c l n p z₂
      → Lowered b z₂ c l (rows16 n (mags p)) n q z₃ → Signed b z₃ signal offset c l (rows16 n (mags q)) n s z₄ → Excited b d signal offset n s z₄
  unfolding excitation
  chain e h f t u v =
      let lowered : Ran b z₂ (block_lows (blocks_from c l 0 n) t.results) 51200 u.results z₃ =
      ran_within (omega arith)
      (subst (λ (m : List (List ℕ)). Ran b z₂ (block_lows (blocks_from c l 0 n) m) (2560 * n) u.results z₃)
      (turned_rows Small (λ w k. k.size) b z₁ _ 240 p z₂ n t) u.ran) in
      let signed : Ran b z₃ (block_signs signal offset (blocks_from c l 0 n) u.results) 5120 v.results z₄ =
      ran_within (omega arith)
      (subst (λ (m : List (List ℕ)). Ran b z₃ (block_signs signal offset (blocks_from c l 0 n) m) (256 * n) v.results z₄)
      (turned_rows Sixteen (λ w k. k) b z₂ _ 2560 q z₃ n u) v.ran) in
      record {
        value = record { rate = a.value; blocks = blocks_from c l 0 n; pulses = v.results };
        ran = ran_ask e h
            (ran_bind _ (ran_of _ f)
            (ran_bind _ (ran_of _ (ran_within {n = 240 * n} {m = 4800} (omega arith) t.ran))
            (ran_bind _ (ran_of _ lowered) (ran_bind _ (ran_of _ signed) (ran_done signed.core)))));
        is = v.is ∙ map-id (flatten v.results);
      }
