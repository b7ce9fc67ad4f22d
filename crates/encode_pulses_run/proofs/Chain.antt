-- The parts of an excitation, told one after the other, are the excitation (RFC 6716, section 4.2.7.8). Assumes nothing.
use Prim.Native.Nat.{ℕ, ◌*◌, ◌≤◌}
use mathlib.Core.Path.{◌≡◌, refl, sym, ap, subst, ◌∙◌}
use mathlib.Core.List.{List, []}
use native.Mathlib.Omega.{arith}
use lib.IntN.{ℤ}
use lib.ListN.{take}
use Rattle.sheet.specs.Directory.{rate_row}
use Rattle.entcode.specs.Models.{tab}
use Rattle.entcode.specs.Flat.{Out}
use Rattle.entcode.specs.Inner.Writing.{Wrote}
use Rattle.tree.specs.Asks.{meant}
use Rattle.tree.proofs.AsksLaws.{meant_of}
use Rattle.tree.specs.Inner.Told.{Told}
use Rattle.tree.proofs.Told.{told_done, told_ask, told_then, told_of, told_within}
use Rattle.silk.specs.PulseSyntax.{Block, Excitation, each, counts, block_lows, block_signs, magnitudes, shifted, excitation, rows16}
use Rattle.silk.specs.Inner.Pulses.{blocks_from, shell_of, whole, Suited, SplitsTold, LowsTold, SignsTold}
use Rattle.silk.proofs.PulseBlocks.{rows_counted}
use Rattle.silk.specs.PulseWriting.{blocks_by, excited}
use Rattle.silk.proofs.PulseWritten.{counts_meant, splits_meant, lows_meant}

module _ (o p₀ p₁ p₂ p₃ q : Out) (r : List ℕ) (signal offset rate n : ℕ) (c l : List ℕ) (v : List ℤ) (few : n ≤ 20)
    (s : Suited (take n l) (rows16 n v) c l) where
  abbrev ps : List (List ℤ)
  ps = rows16 n v

  abbrev bs : List Block
  bs = blocks_by (take n l) ps

  abbrev hand : Excitation
  hand = excited rate (take n l) ps

  planned : blocks_from c l 0 n ≡ bs
  planned = ap (λ (k : ℕ). blocks_from c l 0 k) (sym (rows_counted n v)) ∙ s.blocks

  counts_back : meant bs (counts rate n) ≡ bs
  counts_back = subst (λ (k : ℕ). meant bs (counts rate k) ≡ bs) (rows_counted n v) (counts_meant rate (take n l) ps s.suits)

  pub chain : r ≡ rate_row signal → Wrote o (record { model = tab 8 r; value = rate }) p₀ → Told p₀ (blocks_from c l 0 n) (counts rate n) 3520 p₁
      → SplitsTold p₁ c l v n p₂ → LowsTold p₂ c l v n p₃ → SignsTold p₃ c l v n signal offset q → Told o hand (excitation signal offset n) 64656 q
  unfolding excitation
  chain e h f t u w =
      let counted : Told p₀ bs (counts rate n) 3520 p₁ = subst (λ (b : List Block). Told p₀ b (counts rate n) 3520 p₁) planned f in
      let split : Told p₁ (shifted bs (whole ps)) (each [] shell_of bs) 4800 p₂ =
      told_within (omega arith) (subst (λ (b : List Block). Told p₁ (shifted b (whole ps)) (each [] shell_of b) (240 * n) p₂) planned t) in
      let lowered : Told p₂ (whole ps) (block_lows bs (shifted bs (whole ps))) 51200 p₃ =
      told_within (omega arith) (subst (λ (b : List Block). Told p₂ (whole ps) (block_lows b (shifted b (whole ps))) (2560 * n) p₃) planned u) in
      let signed : Told p₃ ps (block_signs signal offset bs (whole ps)) 5120 q =
      told_within (omega arith) (subst (λ (b : List Block). Told p₃ ps (block_signs signal offset b (whole ps)) (256 * n) q) planned w) in
      told_ask e refl h
      (told_then _ (meant_of hand (λ (y : Excitation). y.blocks) (counts rate n) ∙ counts_back) (told_of _ counted)
      (told_then _ (meant_of hand (λ (y : Excitation). shifted y.blocks (magnitudes y)) (each [] shell_of bs) ∙ splits_meant (take n l) ps s.suits)
      (told_of _ split)
      (told_then _ (meant_of hand magnitudes (block_lows bs (shifted bs (whole ps))) ∙ lows_meant (take n l) ps s.suits) (told_of _ lowered)
      (told_then _ refl (told_of _ signed) (told_done signed.core)))))
