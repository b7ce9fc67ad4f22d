-- A symbol of any SILK row may be written: each has a probability (`row_writable`). Assumes nothing.
use Prim.Native.Nat.{ℕ, ◌<◌}
use mathlib.Core.Path.{◌≡◌}
use lib.ListN.{length}
use Rattle.icdf.proofs.RuleLaws.{symbol_accepts}
use Rattle.sheet.proofs.DirectoryLaws.{row_count}
use Rattle.sheet.specs.Directory.{row_of}
use Rattle.sheet.proofs.SheetRule.{row_good, row_writable}
use Rattle.entcode.specs.Models.{tab}
use Rattle.entcode.specs.Rules.{say_rule}
use Rattle.tree.specs.Asks.{Asks, ask}
use Rattle.tree.proofs.Says.{Says, says}

pub row_says : (k v : ℕ) → k < row_count → v < length (row_of k) → say_rule (tab 8 (row_of k)) v ≡ 0
row_says k v h i = symbol_accepts 8 (row_of k) v (row_good k h) (row_writable k v h i)

pub says_row : {R A : Type 0} {y : R} {r : A} (k : ℕ) {w : R → ℕ} {f : ℕ → Asks R A} → k < row_count → w y < length (row_of k) → Says y r (f (w y)) → Says y r (ask (tab 8 (row_of k)) w f)
says_row {y = y} k {w = w} h i p = says (row_says k (w y) h i) p
