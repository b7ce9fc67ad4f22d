-- Where the pass has come to, and one place more. Assumes nothing.
use Prim.Native.Nat.{ℕ, suc, ◌+◌, ◌*◌, ◌/◌, ◌%◌, ◌≤◌, ◌<◌}
use mathlib.Core.Path.{◌≡◌, sym, ap, ap₂, ◌∙◌}
use mathlib.Core.Bool.{cond}
use mathlib.Core.List.{List}
use native.Mathlib.Omega.{arith}
use lib.Dec.{eqb}
use lib.IntN.{ℤ, pos, ◌+ℤ◌}
use lib.ListN.{length, get_or, set, get_or-eq_default}
use Rattle.nlsf_weights.specs.Inner.{share_at}
use Rattle.spectrum.proofs.Passes.{Down, down_step}
use Rattle.spectrum.proofs.PlaceLaws.{length_residuals, residual_at, length_placed, placed_at}
use Rattle.spectrum.proofs.ResidualBounds.{residuals_within}
use Rattle.spectrum.proofs.Results.{within_at}
use Rattle.spectrum.specs.Places.{placed}
use Rattle.spectrum.specs.Residuals.{scaled, predicted, list_of}
use Rattle.spectrum.specs.Values.{at, Mag}
use Rattle.nlsf_places.specs.Inner.{Rows, predictor_of, predictor_at, predictor_by, residuals_by, places_by, PlacesOk}

-- what the pass has come to at place k
pub record Came (t : Rows) (v₀ xs v : List ℤ) (r : ℤ) (q k : ℕ) : Type 0 where
  pub here : k ≤ length v₀
  pub done : Down (places_by t xs) v₀ v k
  pub left : r ≡ at (residuals_by t xs) k
  pub share : q ≡ share_at t.values k

module _ (t : Rows) (v₀ xs : List ℤ) (o : PlacesOk t v₀ xs) where
  many : length (residuals_by t xs) ≡ length v₀
  many = length_residuals t.step (predictor_by t) 0 xs ∙ o.indices

  -- each residual fits, and behind the last stands 0
  pub near : ((i : ℕ) → predictor_by t i ≤ 256) → (k : ℕ) → Mag 29200 (at (residuals_by t xs) k)
  near y k =
      let l : length xs ≤ 16 = omega (arith, o.indices, o.few) in
      let w = within_at 29200 29200 (residuals_by t xs) (residuals_within t.step (predictor_by t) o.small y 0 xs l o.tens) k in
      (w.1, w.0)

  pub none_behind : at (residuals_by t xs) (length v₀) ≡ pos 0
  none_behind = get_or-eq_default (residuals_by t xs) (pos 0) (omega (arith, many))

  -- one turn: the residual and the place at j, from the residual at k
  turn : (j k : ℕ) (r : ℤ) → k ≡ suc j → k ≤ length v₀ → r ≡ at (residuals_by t xs) k
      → predicted (predictor_by t j) r +ℤ scaled t.step (at xs j) ≡ at (residuals_by t xs) j
  turn j k r e h f =
      ap (λ (z : ℤ). predicted (predictor_by t j) z +ℤ scaled t.step (at xs j)) (f ∙ ap (at (residuals_by t xs)) e)
      ∙ sym (residual_at t.step (predictor_by t) xs j (omega (arith, o.indices)))

  -- the residual that the code has at j, by the predictor p
  pub one : {r m : ℤ} {p : ℕ} (j k : ℕ) → k ≡ suc j → k ≤ length v₀ → r ≡ at (residuals_by t xs) k → p ≡ predictor_by t j
      → m ≡ predicted p r +ℤ scaled t.step (at xs j) → m ≡ at (residuals_by t xs) j
  one {r} j k e h f p q = q ∙ ap (λ (n : ℕ). predicted n r +ℤ scaled t.step (at xs j)) p ∙ turn j k r e h f

  pub puts : (j : ℕ) → j < length v₀ → placed (get_or t.values j 0) (get_or t.weights j 0) (at (residuals_by t xs) j) ≡ at (places_by t xs) j
  puts j h =
      sym
      (placed_at t.values t.weights (residuals_by t xs) j (omega (arith, o.book)) (omega (arith, o.weighed)) (omega (arith, many)))

  pub full : length (places_by t xs) ≡ length v₀
  full = length_placed t.values t.weights (residuals_by t xs) (o.book ∙ sym many) (o.weighed ∙ sym many) ∙ many

  -- place j behind place k
  pub went : {v : List ℤ} {r r' z : ℤ} {q q' k j : ℕ} → Came t v₀ xs v r q k → suc j ≡ k → r' ≡ at (residuals_by t xs) j
      → z ≡ at (places_by t xs) j → q' ≡ share_at t.values j → Came t v₀ xs (set v j z) r' q' j
  went {v = v} {z = z} {k = k} {j = j} c e f g h =
      record { here = omega (arith, c.here); done = down_step (places_by t xs) v₀ v k j z e c.here g c.done; left = f; share = h }

  -- place j, as the code has its residual, its place and its share
  pub more : {v : List ℤ} {r r' z : ℤ} {q q' p w : ℕ} (j k : ℕ) → k ≡ suc j → Came t v₀ xs v r q k → p ≡ predictor_by t j
      → r' ≡ predicted p r +ℤ scaled t.step (at xs j) → w ≡ get_or t.weights j 0 → q' ≡ share_at t.values j
      → z ≡ placed (get_or t.values j 0) w r' → Came t v₀ xs (set v j z) r' q' j
  more j k e c p f w h g =
      let n = one j k e c.here c.left p f in
      went c (sym e) n (g ∙ ap₂ (placed (get_or t.values j 0)) w n ∙ puts j (omega (arith, c.here))) h

-- a selector serves an odd place by its upper half, and the even one before it by its lower half
pub odd_by : (e p : List ℕ) (k : ℕ) → predictor_of p (get_or e k 0 / 16 % 2) (2 * k + 1) ≡ predictor_at e p (2 * k + 1)
odd_by e p k =
    let h : k ≡ (2 * k + 1) / 2 = omega arith in
    let o : 1 ≡ (2 * k + 1) % 2 = omega arith in
    ap₂ (λ (i m : ℕ). predictor_of p (cond (eqb m 0) (get_or e i 0 % 2) (get_or e i 0 / 16 % 2)) (2 * k + 1)) h o

pub even_by : (e p : List ℕ) (k : ℕ) → predictor_of p (get_or e k 0 % 2) (2 * k) ≡ predictor_at e p (2 * k)
even_by e p k =
    let h : k ≡ 2 * k / 2 = omega arith in
    let o : 0 ≡ 2 * k % 2 = omega arith in
    ap₂ (λ (i m : ℕ). predictor_of p (cond (eqb m 0) (get_or e i 0 % 2) (get_or e i 0 / 16 % 2)) (2 * k)) h o

-- predictors are bytes
pub bytes : (t : Rows) → ((k : ℕ) → get_or t.lists k 0 ≤ 256) → (i : ℕ) → predictor_by t i ≤ 256
unfolding predictor_of
bytes t y i = y (2 * i + list_of (get_or t.selectors (i / 2) 0) i)
