-- Shifted magnitudes of a block, one place after the other. Assumes nothing.
use Prim.Native.Nat.{ℕ, zero, suc, ◌+◌, ◌/◌, ◌^◌, ◌<◌}
use mathlib.Core.Path.{◌≡◌, refl, sym, ap, ◌∙◌}
use mathlib.Core.List.{List, [], ◌∷◌, map}
use native.Mathlib.Nat.{zero-div}
use native.Mathlib.Numerals.{add-one}
use native.Mathlib.Omega.{arith}
use lib.IntN.{ℤ, pos, nat_abs}
use lib.ListN.{length, get_or, take, length-map}
use lib.Seq.{take-suc}
use Rattle.silk.specs.PulseSyntax.{total}
use Rattle.silk.proofs.PulseLaws.{total_append}
use Rattle.silk.specs.PulseWriting.{shifted_by}

pub shifted_size : (j : ℕ) (p : List ℤ) → length (shifted_by j p) ≡ length p
shifted_size j p = length-map (map nat_abs p) (λ m. m / 2 ^ j) ∙ length-map p nat_abs

pub shifted_at : (j : ℕ) (p : List ℤ) (k : ℕ) → get_or (shifted_by j p) k 0 ≡ nat_abs (get_or p k (pos 0)) / 2 ^ j
shifted_at j [] k = sym (zero-div (2 ^ j))
shifted_at j (z ∷ p) zero = refl
shifted_at j (z ∷ p) (suc k) = shifted_at j p k

pub total_more : (j : ℕ) (p : List ℤ) (k : ℕ) → k < length p
    → total (take (k + 1) (shifted_by j p)) ≡ total (take k (shifted_by j p)) + nat_abs (get_or p k (pos 0)) / 2 ^ j
unfolding total
total_more j p k h =
    rw add-one
    (ap total (take-suc (shifted_by j p) k 0 (omega (arith, shifted_size j p))) ∙ total_append (take k (shifted_by j p)) (get_or (shifted_by j p) k 0 ∷ [])
    ∙ omega (arith, shifted_at j p k))
