-- Residuals and places, place by place, as a loop from the last place down computes them. Assumes nothing.
use Prim.Native.Nat.{ℕ, zero, suc, ◌+◌, ◌*◌, ◌≤◌, ◌<◌}
use mathlib.Core.Path.{◌≡◌, refl, sym, ap, ap₂, ◌∙◌}
use mathlib.Core.List.{List, [], ◌∷◌}
use native.Mathlib.Omega.{arith}
use native.Mathlib.Nat.{suc_inj, not-suc-le-zero, le_of_suc-le-suc, zero-mul}
use lib.IntN.{ℤ, pos, ◌+ℤ◌, +ℤ_idl}
use lib.Signed.{shr_z}
use lib.ListN.{length, get_or}
use Rattle.spectrum.proofs.ResidualBounds.{placed_within}
use Rattle.spectrum.specs.Places.{placed, placed_all, places}
use Rattle.spectrum.specs.Residuals.{scaled, predicted, leading, residuals, predictor_in}
use Rattle.spectrum.specs.Statement.{PlacesWithin}
use Rattle.spectrum.specs.Values.{at, Within}

-- nothing behind adds nothing
predicted_none : (p : ℕ) → predicted p (pos 0) ≡ pos 0
unfolding predicted
predicted_none p = let e : 0 * p ≡ 0 = zero-mul p in ap (λ (n : ℕ). shr_z (pos n) 256) e

pub length_residuals : (step : ℕ) (predictor : ℕ → ℕ) (k : ℕ) (xs : List ℤ) → length (residuals step predictor k xs) ≡ length xs
unfolding residuals
length_residuals step predictor k [] = refl
length_residuals step predictor k (x ∷ []) = refl
length_residuals step predictor k (x ∷ y ∷ xs) = ap suc (length_residuals step predictor (suc k) (y ∷ xs))

leading_at : (rs : List ℤ) → leading rs ≡ at rs 0
leading_at [] = refl
leading_at (r ∷ rs) = refl

-- a residual by the one behind it, which is 0 behind the last
residual_from : (step : ℕ) (predictor : ℕ → ℕ) (k : ℕ) (xs : List ℤ) (i : ℕ) → i < length xs
    → at (residuals step predictor k xs) i ≡ predicted (predictor (k + i)) (at (residuals step predictor k xs) (suc i)) +ℤ scaled step (at xs i)
unfolding residuals
residual_from step predictor k [] i h = absurd (not-suc-le-zero h)
residual_from step predictor k (x ∷ []) zero h =
    sym (ap (λ (z : ℤ). z +ℤ scaled step x) (predicted_none (predictor (k + 0))) ∙ +ℤ_idl (scaled step x))
residual_from step predictor k (x ∷ []) (suc i) h = absurd (not-suc-le-zero (le_of_suc-le-suc h))
residual_from step predictor k (x ∷ y ∷ xs) zero h =
    let rs = residuals step predictor (suc k) (y ∷ xs) in
    let e : k ≡ k + 0 = omega arith in
    ap₂ (λ (n : ℕ) (r : ℤ). predicted (predictor n) r +ℤ scaled step x) e (leading_at rs)
residual_from step predictor k (x ∷ y ∷ xs) (suc i) h =
    let rs = residuals step predictor (suc k) (y ∷ xs) in
    let e : suc k + i ≡ k + suc i = omega arith in
    residual_from step predictor (suc k) (y ∷ xs) i (le_of_suc-le-suc h)
    ∙ ap (λ (n : ℕ). predicted (predictor n) (at rs (suc i)) +ℤ scaled step (at (y ∷ xs) i)) e

pub residual_at : (step : ℕ) (predictor : ℕ → ℕ) (xs : List ℤ) (i : ℕ) → i < length xs
    → at (residuals step predictor 0 xs) i ≡ predicted (predictor i) (at (residuals step predictor 0 xs) (suc i)) +ℤ scaled step (at xs i)
residual_at step predictor xs i h =
    let e : 0 + i ≡ i = omega arith in
    residual_from step predictor 0 xs i h
    ∙ ap (λ (n : ℕ). predicted (predictor n) (at (residuals step predictor 0 xs) (suc i)) +ℤ scaled step (at xs i)) e

-- the predictors of the places alone matter
pub residuals_alike : (step : ℕ) (f g : ℕ → ℕ) (n : ℕ) → ((i : ℕ) → i < n → f i ≡ g i) → (k : ℕ) (xs : List ℤ) → k + length xs ≤ n
    → residuals step f k xs ≡ residuals step g k xs
unfolding residuals
residuals_alike step f g n e k [] h = refl
residuals_alike step f g n e k (x ∷ []) h = refl
residuals_alike step f g n e k (x ∷ y ∷ xs) h =
    ap₂ (λ (p : ℕ) (rs : List ℤ). (predicted p (leading rs) +ℤ scaled step x) ∷ rs) (e k (omega arith))
    (residuals_alike step f g n e (suc k) (y ∷ xs) (omega arith))

-- ---- places

pub length_placed : (bs ws : List ℕ) (rs : List ℤ) → length bs ≡ length rs → length ws ≡ length rs → length (placed_all bs ws rs) ≡ length rs
unfolding placed_all
length_placed [] ws [] p q = refl
length_placed [] ws (r ∷ rs) p q = absurd (omega arith)
length_placed (b ∷ bs) [] [] p q = refl
length_placed (b ∷ bs) [] (r ∷ rs) p q = absurd (omega arith)
length_placed (b ∷ bs) (w ∷ ws) [] p q = refl
length_placed (b ∷ bs) (w ∷ ws) (r ∷ rs) p q = ap suc (length_placed bs ws rs (suc_inj p) (suc_inj q))

pub placed_at : (bs ws : List ℕ) (rs : List ℤ) (i : ℕ) → i < length bs → i < length ws → i < length rs
    → at (placed_all bs ws rs) i ≡ placed (get_or bs i 0) (get_or ws i 0) (at rs i)
unfolding placed_all
placed_at [] ws rs i p q h = absurd (not-suc-le-zero p)
placed_at (b ∷ bs) [] rs i p q h = absurd (not-suc-le-zero q)
placed_at (b ∷ bs) (w ∷ ws) [] i p q h = absurd (not-suc-le-zero h)
placed_at (b ∷ bs) (w ∷ ws) (r ∷ rs) zero p q h = refl
placed_at (b ∷ bs) (w ∷ ws) (r ∷ rs) (suc i) p q h =
    placed_at bs ws rs i (le_of_suc-le-suc p) (le_of_suc-le-suc q) (le_of_suc-le-suc h)

-- each place lies in 0 .. 32,767
pub placed_all_within : (bs ws : List ℕ) (rs : List ℤ) → Within 0 32767 (placed_all bs ws rs)
unfolding placed_all Within
placed_all_within [] ws rs = tt
placed_all_within (b ∷ bs) [] rs = tt
placed_all_within (b ∷ bs) (w ∷ ws) [] = tt
placed_all_within (b ∷ bs) (w ∷ ws) (r ∷ rs) =
    let p = placed_within b w r in ((omega (arith, p.0), p.1), placed_all_within bs ws rs)

-- so what decoding hands to the stabiliser does
pub places_within : PlacesWithin
unfolding places
places_within b v xs =
    placed_all_within (get_or b.vectors v []) (get_or b.weights v [])
    (residuals b.step (predictor_in (get_or b.selectors v []) b.predictors) 0 xs)
