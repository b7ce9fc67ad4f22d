-- Reading side indices part by part; a field that is coded or fixed; one turn of each loop over the side indices: the
-- rest of its tree, run on what a turn left, gives what it gave before. Counted as code counts, by k + 1. For residuals
-- also how much of their selectors matters, read or written. Assumes nothing.
use Prim.Native.Nat.{ℕ, zero, suc, ◌+◌, ◌-◌, ◌≤◌, ◌<◌}
use mathlib.Core.Path.{◌≡◌, refl, ap₂, fun_ext, ◌∙◌}
use mathlib.Core.List.{List}
use native.Mathlib.Numerals.{add-one}
use native.Mathlib.Omega.{arith}
use borrow.Author.Tests.{eq-eqb, ne_eqb}
use lib.IntN.{ℤ, pos}
use lib.ListN.{length, get_or}
use mir.Syntax.{w8}
use mir.Val.{to_z}
use mir.Facts.{to_z_pos}
use Rattle.sheet.specs.Directory.{delta_gain_row, residual_row, filter_row}
use Rattle.entcode.specs.declared.Dec.{Dec}
use Rattle.entcode.specs.declared.Decoded.{Decoded}
use Rattle.entcode.specs.Models.{tab}
use Rattle.entcode.specs.Inner.Reading.{Core, Took}
use Rattle.tree.specs.Asks.{Asks, run, got, then, of}
use Rattle.tree.proofs.AsksLaws.{run_of}
use Rattle.tree.specs.Inner.Ran.{Ran}
use Rattle.tree.proofs.Ran.{asked, ran_then, ran_done, ran_ask, ran_within}
use Rattle.silk.specs.declared.Indices.{Indices}
use Rattle.silk.specs.Record.{with_gain, with_nlsf, with_filter}
use Rattle.silk.specs.Inner.Indices.{Row, Reading}
use Rattle.silk.specs.IndexSyntax.{coded_or, said_at, more_gains, residual_pick, residual, residuals, filters}

-- a number that is not yet reached has a step to it
pub less_suc : (n k : ℕ) → k < n → n - k ≡ suc (n - suc k)
less_suc n k h = omega arith

-- a part was read: the next one may be
pub reading_next : {R A : Type 0} {b : List ℕ} {d z : Dec} {t : Asks R A} {y : A} {l : List ℕ} {n m : ℕ} (k : ℕ)
    → Reading b d l n → Ran b d t m y z → n + m ≤ k → Reading b z l k
reading_next k h p e = record { core = p.core; few = omega (arith, h.few, p.most); rows = h.rows }

-- a symbol of a row of at most 128 entries is its own number of 8 bits
pub symbol_is : {b t r : List ℕ} {d : Dec} {a : Decoded} {n : ℕ} → Row r n t → Took b (tab 8 t) d a → n ≤ 128 → to_z w8 a.value ≡ pos a.value
symbol_is {a = a} t h l = to_z_pos w8 {n = a.value} (omega (arith, h.inside, t.size))

-- ---- a field that is coded or fixed

module _ {b : List ℕ} {d : Dec} (n k : ℕ) (u : List ℕ) (w : Indices → ℕ) (put : ℤ → Indices) (fixed : ℕ) where
  pub coded_read : {r : List ℕ} {a : Decoded} → n ≡ k → r ≡ u → Took b (tab 8 r) d a → length r ≤ 128
      → Ran b d (coded_or n k u w put fixed) 16 (put (to_z w8 a.value)) a.state
  coded_read {a = a} e f h l =
      let z : to_z w8 a.value ≡ pos a.value = to_z_pos w8 {n = a.value} (omega (arith, h.inside)) in
      rw (eq-eqb _ _ e, z) (ran_ask f h (ran_done h.core))

  pub fixed_read : (n ≡ k → ⊥) → Core b d → Ran b d (coded_or n k u w put fixed) 16 (put (pos fixed)) d
  fixed_read h c = rw (ne_eqb _ _ h) (ran_within {n = 0} {m = 16} (omega arith) (ran_done c))

-- ---- loops

-- residuals look at no more of their selectors than the rows picked for their places
pub residuals_picked : (khz : ℕ) (s t : List ℕ) (n i : ℕ) (x : Indices) → ((j : ℕ) → j < i + n → residual_pick s j ≡ residual_pick t j)
    → residuals khz s n i x ≡ residuals khz t n i x
unfolding residuals
residuals_picked khz s t zero i x h = refl
residuals_picked khz s t (suc n) i x h =
    ap₂ (λ (k : ℕ) (g : ℤ → Asks Indices Indices). then (of (λ y. get_or y.nlsf (suc i) (pos 0)) (residual (residual_row khz k))) g)
    (h i (omega arith))
    (fun_ext (λ z. residuals_picked khz s t n (suc i) (with_nlsf x (suc i) z) (λ j l. h j (omega arith))))

module _ (b : List ℕ) (d : Dec) (n k : ℕ) (x : Indices) where
  pub gains_end : n ≤ k → run b d (more_gains (n - k) k x) ≡ got x d
  unfolding run more_gains
  gains_end h = let e : n - k ≡ 0 = omega arith in rw e

  pub gains_next : (t : List ℕ) (a : Decoded) → t ≡ delta_gain_row → Took b (tab 8 t) d a → k < n
      → run b a.state (more_gains (n - (k + 1)) (k + 1) (with_gain x k a.value)) ≡ run b d (more_gains (n - k) k x)
  unfolding more_gains
  gains_next t a e h l =
      rw (add-one, less_suc n k l) (asked b d t delta_gain_row (λ y. said_at y.gains k) (λ v. more_gains (n - suc k) (suc k) (with_gain x k v)) a e h)

  pub filters_end : (p : ℕ) → n ≤ k → run b d (filters p (n - k) k x) ≡ got x d
  unfolding run filters
  filters_end p h = let e : n - k ≡ 0 = omega arith in rw e

  pub filters_next : (p : ℕ) (t : List ℕ) (a : Decoded) → t ≡ filter_row p → Took b (tab 8 t) d a → k < n
      → run b a.state (filters p (n - (k + 1)) (k + 1) (with_filter x k a.value)) ≡ run b d (filters p (n - k) k x)
  unfolding filters
  filters_next p t a e h l =
      rw (add-one, less_suc n k l) (asked b d t (filter_row p) (λ y. said_at y.ltp k) (λ v. filters p (n - suc k) (suc k) (with_filter x k v)) a e h)

  pub residuals_end : (khz : ℕ) (s : List ℕ) → n ≤ k → run b d (residuals khz s (n - k) k x) ≡ got x d
  unfolding run residuals
  residuals_end khz s h = let e : n - k ≡ 0 = omega arith in rw e

  pub residuals_next : (khz : ℕ) (s : List ℕ) (z : ℤ) (q : Dec) → k < n → run b d (residual (residual_row khz (residual_pick s k))) ≡ got z q
      → run b q (residuals khz s (n - (k + 1)) (k + 1) (with_nlsf x (k + 1) z)) ≡ run b d (residuals khz s (n - k) k x)
  unfolding residuals
  residuals_next khz s z q l e =
      let r = residual (residual_row khz (residual_pick s k)) in
      rw (add-one, less_suc n k l)
      (ran_then b d q (of (λ y. get_or y.nlsf (suc k) (pos 0)) r) (λ z. residuals khz s (n - suc k) (suc k) (with_nlsf x (suc k) z)) z
      (run_of b d (λ y. get_or y.nlsf (suc k) (pos 0)) r ∙ e))
