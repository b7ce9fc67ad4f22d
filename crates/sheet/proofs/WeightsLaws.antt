-- All 832 weights of the two books are by the rule of RFC 6716, section 4.2.7.5.3, which never divides by 0 there. Assumes nothing.
use Prim.Native.Nat.{ℕ, ◌<◌}
use mathlib.Core.Path.{◌≡◌, refl, sym, ap, ◌∙◌}
use mathlib.Core.Bool.{true}
use mathlib.Core.List.{List, []}
use native.Mathlib.Omega.{arith}
use lib.ListN.{get_or, get_or-map}
use Rattle.bitlen.specs.Length.{bit_length, length_in}
use Rattle.lists.proofs.EveryLaws.{every_at}
use Rattle.sheet.specs.Books.{Book, narrow_book, wide_book}
use Rattle.sheet.specs.Weights.{root_at, weight, weights_from, weights_of, rises_by, rises}
use Rattle.sheet.specs.Statement.{ByRule, NarrowByRule, WideByRule, Rising, NarrowRises, WideRises}
use Rattle.sheet.proofs.BooksLaws.{Shaped}

pub narrow_by_rule : NarrowByRule
unfolding narrow_book weights_of weights_from weight root_at bit_length length_in
narrow_by_rule = record { all = refl }

pub wide_by_rule : WideByRule
unfolding wide_book weights_of weights_from weight root_at bit_length length_in
wide_by_rule = record { all = refl }

-- the weights of vector v
pub weights_at : {b : Book} → ByRule b → (v : ℕ) → get_or b.weights v [] ≡ weights_of (get_or b.vectors v [])
unfolding weights_of weights_from
weights_at {b} r v = ap (λ (l : List (List ℕ)). get_or l v []) (sym r.all) ∙ get_or-map weights_of b.vectors v []

-- ---- the values rise

pub narrow_rises : NarrowRises
unfolding narrow_book rises_by
narrow_rises = refl

pub wide_rises : WideRises
unfolding wide_book rises_by
wide_rises = refl

-- those of vector v
pub rises_at : {n : ℕ} {b : Book} → Shaped n b → Rising b → (v : ℕ) → v < 32 → rises (get_or b.vectors v []) ≡ true
rises_at {n} {b} s r v h = every_at rises b.vectors [] r v (omega (arith, s.vectors.count))
