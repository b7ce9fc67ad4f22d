-- What weighing asks of a book's vector, and that its weights are the book's. Assumes nothing.
use Prim.Native.Nat.{ℕ, ◌≤◌, ◌<◌}
use mathlib.Core.Path.{◌≡◌, sym, ap, ◌∙◌}
use mathlib.Core.Bool.{true}
use mathlib.Core.List.{List, []}
use native.Mathlib.Omega.{arith}
use lib.ListN.{length, get_or}
use Rattle.sheet.specs.Books.{Book}
use Rattle.sheet.specs.Statement.{ByRule, Rising}
use Rattle.sheet.specs.Weights.{weights_of, rises}
use Rattle.sheet.proofs.BooksLaws.{Shaped}
use Rattle.sheet.proofs.WeightsLaws.{weights_at, rises_at}

module _ {b : Book} (v : ℕ) {l : List ℕ} (e : l ≡ get_or b.vectors v []) where
  pub vector_asked : {n : ℕ} → Shaped n b → Rising b → 1 ≤ n → v < 32 → (n ≡ length l) × ((1 ≤ length l) × (rises l ≡ true))
  vector_asked {n} s r o h =
      let w : n ≡ length l = sym (ap length e ∙ s.vectors.width v h) in
      (w, (omega arith, ap rises e ∙ rises_at s r v h))

  pub vector_weighed : ByRule b → weights_of l ≡ get_or b.weights v []
  vector_weighed r = ap weights_of e ∙ sym (weights_at r v)
