-- Bounds of residuals and places: with indices -10 .. 10, a step of at most 11,796 and predictors of at most 256, the residual that has n places
-- from it to the end lies in -1,825 n .. 1,825 n: 29,200 for 16 places. Assumes nothing.
use Prim.Native.Nat.{ℕ, suc, ◌*◌, ◌≤◌}
use mathlib.Core.Path.{◌≡◌, sym, subst}
use mathlib.Core.List.{List, [], ◌∷◌}
use native.Mathlib.Omega.{arith}
use native.Mathlib.Nat.{mul-le-mul, div-le_self}
use lib.IntN.{ℤ, pos, negsuc, ◌+ℤ◌, ◌*ℤ◌}
use lib.Signed.{shr_z, quot_z}
use lib.ListN.{length}
use Rattle.ints.proofs.Order.{parts_alone}
use Rattle.ints.specs.Parts.{up, down}
use Rattle.ints.proofs.Quotients.{up_quot, down_quot}
use Rattle.ints.proofs.Sums.{up_sum, down_sum, up_diff, down_diff, up_times, down_times}
use Rattle.spectrum.proofs.Extremes.{chosen_lt_z, held_least, held_most}
use Rattle.spectrum.specs.Places.{placed}
use Rattle.spectrum.specs.Residuals.{nudged, scaled, predicted, leading, residuals}
use Rattle.spectrum.specs.Statement.{ResidualsWithin, MovedFits}
use Rattle.spectrum.specs.Values.{held, Mag, Within}

pub nudged_within : (x : ℤ) → Mag 10 x → Mag 10138 (nudged x)
unfolding nudged
nudged_within x m =
    chosen_lt_z (Mag 10138) (pos 0) x
    (λ h. (omega (arith, m, parts_alone x, up_diff (x *ℤ pos 1024) (pos 102), up_times x 1024, down_times x 1024), omega (arith, m, parts_alone x, down_diff (x *ℤ pos 1024) (pos 102), up_times x 1024, down_times x 1024)))
    (λ h.
    chosen_lt_z (Mag 10138) x (pos 0)
    (λ k. (omega (arith, m, parts_alone x, up_sum (x *ℤ pos 1024) (pos 102), up_times x 1024, down_times x 1024), omega (arith, m, parts_alone x, down_sum (x *ℤ pos 1024) (pos 102), up_times x 1024, down_times x 1024)))
    (λ k. (omega arith, omega arith)))

pub times_within : (z : ℤ) (k a b : ℕ) → Mag a z → k ≤ b → Mag (a * b) (z *ℤ pos k)
times_within z k a b m h =
    (subst (λ (n : ℕ). n ≤ a * b) (sym (up_times z k)) (mul-le-mul m.0 h), subst (λ (n : ℕ). n ≤ a * b) (sym (down_times z k)) (mul-le-mul m.1 h))

shr16_within : (z : ℤ) (b : ℕ) → Mag (b * 65536) z → Mag b (shr_z z 65536)
shr16_within (pos n) b m = (omega (arith, m), omega arith)
shr16_within (negsuc n) b m = (omega arith, omega (arith, m))

shr8_within : (z : ℤ) (b : ℕ) → Mag (b * 256) z → Mag b (shr_z z 256)
shr8_within (pos n) b m = (omega (arith, m), omega arith)
shr8_within (negsuc n) b m = (omega arith, omega (arith, m))

pub scaled_within : (step : ℕ) (x : ℤ) → step ≤ 11796 → Mag 10 x → Mag 1825 (scaled step x)
unfolding scaled
scaled_within step x h m =
    let t = times_within (nudged x) step 10138 11796 (nudged_within x m) h in
    shr16_within (nudged x *ℤ pos step) 1825 (omega (arith, t.0), omega (arith, t.1))

pub predicted_within : (p : ℕ) (r : ℤ) (b : ℕ) → p ≤ 256 → Mag b r → Mag b (predicted p r)
unfolding predicted
predicted_within p r b h m = shr8_within (r *ℤ pos p) b (times_within r p b 256 m h)

module _ (step : ℕ) (predictor : ℕ → ℕ) (h : step ≤ 11796) (e : (i : ℕ) → predictor i ≤ 256) where
  first_residual : (k : ℕ) (xs : List ℤ) → Within 10 10 xs → Mag (1825 * length xs) (leading (residuals step predictor k xs))
  unfolding residuals Within
  first_residual k [] f = (omega arith, omega arith)
  first_residual k (x ∷ []) f = let b = scaled_within step x h (f.0.1, f.0.0) in (omega (arith, b.0), omega (arith, b.1))
  first_residual k (x ∷ y ∷ xs) f =
      let r = leading (residuals step predictor (suc k) (y ∷ xs)) in
      let a = predicted_within (predictor k) r (1825 * length (y ∷ xs)) (e k) (first_residual (suc k) (y ∷ xs) f.1) in
      let b = scaled_within step x h (f.0.1, f.0.0) in
      (omega (arith, up_sum (predicted (predictor k) r) (scaled step x), a.0, b.0), omega (arith, down_sum (predicted (predictor k) r) (scaled step x), a.1, b.1))

  every_residual : (k : ℕ) (xs : List ℤ) → length xs ≤ 16 → Within 10 10 xs → Within 29200 29200 (residuals step predictor k xs)
  unfolding residuals Within
  every_residual k [] n f = tt
  every_residual k (x ∷ []) n f = let a = first_residual k (x ∷ []) f in ((omega (arith, a.1), omega (arith, a.0)), tt)
  every_residual k (x ∷ y ∷ xs) n f =
      let a = first_residual k (x ∷ y ∷ xs) f in
      ((omega (arith, a.1), omega (arith, a.0)), every_residual (suc k) (y ∷ xs) (omega arith) f.1)

pub residuals_within : ResidualsWithin
residuals_within = every_residual

-- ---- placing: what the division gives, and the sum, fit 32 bits; the place lies in 0 .. 32,767

pub moved_fits : MovedFits
moved_fits w r m =
    let t = times_within r 16384 29200 16384 m (omega arith) in
    let z = r *ℤ pos 16384 in
    ((omega (arith, t.0), omega (arith, t.1)), (omega (arith, t.0, up_quot z w, div-le_self (up z) w), omega (arith, t.1, down_quot z w, div-le_self (down z) w)))

pub placed_within : (b w : ℕ) (r : ℤ) → (down (placed b w r) ≡ 0) × (up (placed b w r) ≤ 32767)
unfolding placed
placed_within b w r =
    let z = quot_z (r *ℤ pos 16384) (pos w) +ℤ pos (b * 128) in
    let p = held_least (pos 0) (pos 32767) z (omega arith) in
    let q = held_most (pos 0) (pos 32767) z (omega arith) in
    (omega (arith, p, parts_alone (held (pos 0) (pos 32767) z)), omega (arith, q, parts_alone (held (pos 0) (pos 32767) z)))
