-- Sizes gone through one after the other. Assumes nothing.
use Prim.Native.Nat.{ℕ, zero, suc, ◌+◌, ◌≤◌, ◌<◌}
use mathlib.Core.Path.{◌≡◌, refl, sym, ap, ◌∙◌}
use mathlib.Core.Bool.{Bool, true, false, ◌&&◌}
use mathlib.Core.List.{List, [], ◌∷◌}
use native.Mathlib.Omega.{arith}
use borrow.Author.Tests.{ne_eqb}
use lib.Dec.{eqb}
use lib.ListN.{length, get_or, take}
use lib.Seq.{take-suc}
use Rattle.std.specs.List.{list_all}
use Rattle.lists.specs.Every.{every}
use Rattle.framing.specs.Lengths.{total}
use Rattle.framing.specs.Writing.{alike}
use Rattle.framing.proofs.Whole.{total_append, total_one}

-- ---- totals

pub total_more : (ns : List ℕ) (k : ℕ) → k < length ns → total (take (k + 1) ns) ≡ total (take k ns) + get_or ns k 0
total_more ns k h =
    let n : suc k ≡ k + 1 = omega arith in
    ap (λ (j : ℕ). total (take j ns)) (sym n) ∙ ap total (take-suc ns k 0 h)
    ∙ total_append (take k ns) (get_or ns k 0 ∷ []) ∙ ap (λ (j : ℕ). total (take k ns) + j) (total_one (get_or ns k 0))

pub total_less : (ns : List ℕ) (k : ℕ) → total (take k ns) ≤ total ns
unfolding total
total_less ns zero = omega arith
total_less [] (suc k) = omega arith
total_less (n ∷ ns) (suc k) = omega (arith, total_less ns k)

pub over : (ns : List ℕ) (n k left : ℕ) → k < length ns → left + total (take k ns) ≡ n → left < get_or ns k 0 → false ≡ eqb n (total ns)
over ns n k left h e l = sym (ne_eqb n (total ns) (λ q. omega (arith, total_more ns k h, total_less ns (k + 1))))

-- ---- tests

-- a test that an iterator asks of each
pub all_every : (f : ℕ → Bool) (ns : List ℕ) → list_all f ns ≡ every f ns
all_every f [] = refl
all_every f (n ∷ ns) = ap (λ (b : Bool). f n && b) (all_every f ns)

pub alike_rest : (ns : List ℕ) (a : ℕ) (r : List ℕ) → ns ≡ a ∷ r → every (λ b. eqb b a) r ≡ alike ns
unfolding alike
alike_rest ns a r e = ap alike (sym e)

pub alike_none : (ns : List ℕ) → length ns ≡ 0 → true ≡ alike ns
unfolding alike
alike_none [] e = refl
alike_none (a ∷ r) e = absurd (omega arith)
