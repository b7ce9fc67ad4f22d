-- Writing side indices part by part, and one turn of each loop: what is left to say before a turn is what it writes,
-- then what is left to say after it. Counted as code counts, by k + 1; the tree starts from the record itself, and
-- stays at it. Assumes nothing.
use Prim.Native.Nat.{ℕ, suc, ◌+◌, ◌-◌, ◌*◌, ◌/◌, ◌≤◌, ◌<◌}
use mathlib.Core.Path.{◌≡◌, refl, sym, ap, ap₂, subst, ◌∙◌}
use mathlib.Core.List.{List, [], ◌∷◌, ◌++◌}
use native.Mathlib.Numerals.{add-one}
use native.Mathlib.Omega.{arith}
use borrow.Author.Tests.{eq-eqb, ne_eqb}
use lib.IntN.{ℤ, pos, nat_abs}
use lib.ListN.{length, get_or}
use Rattle.sheet.specs.Directory.{delta_gain_row, first_index_row, residual_row, filter_row}
use Rattle.entcode.specs.Models.{Sym, tab}
use Rattle.entcode.specs.Flat.{Out}
use Rattle.entcode.specs.Inner.Writing.{Core, Wrote}
use Rattle.tree.specs.Asks.{Asks, symbols, meant, of}
use Rattle.tree.proofs.AsksLaws.{symbols_then, symbols_of, meant_of}
use Rattle.tree.proofs.Says.{says_means}
use Rattle.tree.specs.Inner.Told.{Told}
use Rattle.tree.proofs.Told.{told_done, told_ask, told_within}
use Rattle.silk.specs.declared.Indices.{Indices}
use Rattle.silk.specs.Record.{with_nlsf}
use Rattle.silk.specs.Inner.Indices.{Writing, Rate, Upto}
use Rattle.silk.proofs.IndexRows.{rate_most}
use Rattle.silk.specs.IndexSyntax.{coded_or, said_at, more_gains, book_of, selectors_of, residual_pick, residual, residuals, spectrum, filters}
use Rattle.silk.proofs.IndexSteps.{less_suc}
use Rattle.silk.proofs.IndexSays.{gain_same, filter_same, index_same, residual_same, residual_says}

-- a part was written: the next one may be
pub writing_next : {R A : Type 0} {o q : Out} {y : R} {t : Asks R A} {l : List ℕ} {n m : ℕ} (k : ℕ)
    → Writing o l n → Told o y t m q → n + m ≤ k → Writing q l k
writing_next k h p e = record { core = p.core; few = omega (arith, h.few, p.most); rows = h.rows }

-- a symbol of a row
abbrev pub symbol_of : List ℕ → ℕ → Sym
symbol_of r v = record { model = tab 8 r; value = v }

-- a field that is coded or fixed
module _ {o : Out} (n k : ℕ) (u : List ℕ) (w : Indices → ℕ) (put : ℤ → Indices) (fixed : ℕ) (x : Indices) where
  pub coded_told : {q : Out} {r : List ℕ} {v : ℕ} → n ≡ k → r ≡ u → v ≡ w x → Wrote o (symbol_of r v) q → Told o x (coded_or n k u w put fixed) 16 q
  coded_told e f g h = rw (eq-eqb _ _ e) (told_ask f g h (told_done h.core))

  pub fixed_told : (n ≡ k → ⊥) → Core o → Told o x (coded_or n k u w put fixed) 16 o
  fixed_told h c = rw (ne_eqb _ _ h) (told_within {n = 0} {m = 16} (omega arith) (told_done c))

-- the first index v, by the row r that was lent, then the residuals by its selectors
pub spectrum_told : {o p q : Out} {r : List ℕ} {v n : ℕ} (khz signal : ℕ) (x : Indices) → length x.nlsf ≡ 17 → Upto 31 (get_or x.nlsf 0 (pos 0))
    → r ≡ first_index_row khz signal → v ≡ said_at x.nlsf 0 → Wrote o (symbol_of r v) p
    → Told p x (residuals khz (selectors_of khz v) (book_of khz).order 0 x) n q → Told o x (spectrum khz signal x) (16 + n) q
unfolding spectrum
spectrum_told {p = p} {q = q} {v = v} {n = n} khz signal x s u e f h k =
    told_ask e f h
    (subst (λ (y : Indices). Told p x (residuals khz (selectors_of khz v) (book_of khz).order 0 y) n q)
    (sym (index_same x 31 v (omega (arith, s)) u f)) k)

-- ---- loops

module _ (n k : ℕ) (x : Indices) where
  pub gains_told_end : n ≤ k → symbols x (more_gains (n - k) k x) ≡ []
  unfolding symbols more_gains
  gains_told_end h = let e : n - k ≡ 0 = omega arith in rw e

  pub gains_told_next : (m : ℕ) → k < n → k < length x.gains → Upto m (get_or x.gains k (pos 0))
      → symbols x (more_gains (n - k) k x) ≡ symbol_of delta_gain_row (said_at x.gains k) ∷ symbols x (more_gains (n - (k + 1)) (k + 1) x)
  unfolding symbols more_gains
  gains_told_next m l i u =
      rw (add-one, less_suc n k l)
      (ap (λ (y : Indices). symbol_of delta_gain_row (said_at x.gains k) ∷ symbols x (more_gains (n - suc k) (suc k) y))
      (gain_same x k m _ i u refl))

  pub filters_told_end : (p : ℕ) → n ≤ k → symbols x (filters p (n - k) k x) ≡ []
  unfolding symbols filters
  filters_told_end p h = let e : n - k ≡ 0 = omega arith in rw e

  pub filters_told_next : (p m : ℕ) → k < n → k < length x.ltp → Upto m (get_or x.ltp k (pos 0))
      → symbols x (filters p (n - k) k x) ≡ symbol_of (filter_row p) (said_at x.ltp k) ∷ symbols x (filters p (n - (k + 1)) (k + 1) x)
  unfolding symbols filters
  filters_told_next p m l i u =
      rw (add-one, less_suc n k l)
      (ap (λ (y : Indices). symbol_of (filter_row p) (said_at x.ltp k) ∷ symbols x (filters p (n - suc k) (suc k) y))
      (filter_same x k m _ i u refl))

  pub residuals_told_end : (khz : ℕ) (s : List ℕ) → n ≤ k → symbols x (residuals khz s (n - k) k x) ≡ []
  unfolding symbols residuals
  residuals_told_end khz s h = let e : n - k ≡ 0 = omega arith in rw e

  pub residuals_told_next : (khz : ℕ) (s : List ℕ) → Rate khz → k < n → k + 1 < length x.nlsf → nat_abs (get_or x.nlsf (k + 1) (pos 0)) ≤ 10
      → symbols x (residuals khz s (n - k) k x)
      ≡ symbols (get_or x.nlsf (k + 1) (pos 0)) (residual (residual_row khz (residual_pick s k)))
      ++ symbols x (residuals khz s (n - (k + 1)) (k + 1) x)
  unfolding residuals
  residuals_told_next khz s r =
      rw (add-one) (λ l i u.
      let h : Indices → ℤ = λ y. get_or y.nlsf (suc k) (pos 0) in
      let t = residual (residual_row khz (residual_pick s k)) in
      let g : ℤ → Asks Indices Indices = λ z. residuals khz s (n - suc k) (suc k) (with_nlsf x (suc k) z) in
      let q = residual_says (khz / 16 * 8 + residual_pick s k) (omega (arith, rate_most r)) (h x) u in
      let m : meant x (of h t) ≡ h x = meant_of x h t ∙ says_means q in
      rw (less_suc n k l)
      (symbols_then x (of h t) g ∙ ap₂ {C = List Sym} (λ (a b : List Sym). a ++ b) (symbols_of x h t)
      (ap (λ (z : ℤ). symbols x (g z)) m ∙ ap (λ (y : Indices). symbols x (residuals khz s (n - suc k) (suc k) y)) (residual_same x (suc k) i))))
