-- An entry of a book's table as the code reads it, and that none stands past the table. Assumes nothing.
use Prim.Native.Nat.{ℕ, ◌+◌, ◌-◌, ◌*◌, ◌/◌, ◌%◌, ◌≤◌, ◌<◌}
use mathlib.Core.Path.{◌≡◌, refl, sym, ap, subst, ◌∙◌}
use mathlib.Core.List.{List, [], flatten}
use native.Mathlib.Nat.{mod-lt, div-lt_iff_lt-mul, le-div_iff_mul-le}
use native.Mathlib.Omega.{arith}
use lib.IntN.{ℤ}
use lib.ListN.{length, get_or}
use Rattle.std.specs.Prelude.{Some, None}
use Rattle.std.specs.List.{slice_get}
use Rattle.std.proofs.lemmas.Option.{slice_get-get_or, slice_get_past}
use Rattle.lists.proofs.Rows.{Grid, grid_length, grid_at}
use Rattle.sheet.specs.Books.{Book}
use Rattle.sheet.proofs.BooksLaws.{Shaped}
use Rattle.tables.specs.Inner.BookLaws.{BookLaws}
use Rattle.tables.specs.Inner.{predictor_row}
use Rattle.tables.proofs.PredictorRow.{predictor_row_at, predictor_row_length}

-- ---- rows of w entries each: entry i stands in row i / w at i mod w

module _ {n w : ℕ} {rs : List (List ℕ)} (g : Grid n w rs) (k : 0 < w) (i : ℕ) where
  pub past : n ≤ i / w → None ≡ slice_get (flatten rs) i
  past h =
      let l : n * w ≤ i = (le-div_iff_mul-le {k = w} {x = n} {y = i} k).0 h in
      sym (slice_get_past (flatten rs) i (omega (arith, grid_length n w rs g)))

  pub inside : i / w < n → {x : ℕ} {r : List ℕ} → r ≡ get_or rs (i / w) [] → x ≡ get_or r (i % w) 0 → Some x ≡ slice_get (flatten rs) i
  inside h f e =
      let l : i < n * w = (div-lt_iff_lt-mul {k = w} {x = i} {y = n} k).0 h in
      ap (λ (y : ℕ). Some y) (e ∙ ap (λ (r : List ℕ). get_or r (i % w) 0) f ∙ sym (grid_at n w rs g k i 0))
      ∙ sym (slice_get-get_or (flatten rs) i 0 (omega (arith, grid_length n w rs g)))

-- ---- a book of order n

module _ {n h p q s : ℕ} {sum : ℤ} {b : Book} (k : BookLaws n h p q s sum b) where
  pub some : 2 ≤ n
  some = omega (arith, k.usable.some, k.order)

  pub shaped : Shaped n b
  shaped = subst (λ (m : ℕ). Shaped m b) k.order k.usable.shaped

  -- the lists of predictors are one shorter than the order, and stand in one row place by place
  module _ (i : ℕ) (l : i < 2 * (n - 1)) where
    list_below : i / (n - 1) < 2
    list_below = (div-lt_iff_lt-mul {k = n - 1} {x = i} {y = 2} (omega (arith, some))).1 l

    pub predictor_within : {r : List ℕ} → r ≡ predictor_row b → 2 * (i % (n - 1)) + i / (n - 1) < length r
    predictor_within f =
        let below = mod-lt i {m = n - 1} (omega (arith, some)) in
        let long = predictor_row_length b n shaped (omega (arith, some)) in
        omega (arith, some, list_below, below, ap length f, long)

    pub predictor_inside : {x : ℕ} {r : List ℕ} → r ≡ predictor_row b → x ≡ get_or r (2 * (i % (n - 1)) + i / (n - 1)) 0
        → Some x ≡ slice_get (flatten b.predictors) i
    predictor_inside f e =
        let w = n - 1 in
        let z : 0 < w = omega (arith, some) in
        inside shaped.predictors z i list_below refl
        (e ∙ ap (λ (r : List ℕ). get_or r (2 * (i % w) + i / w) 0) f
        ∙ predictor_row_at b n shaped (omega (arith, some)) (i / w) (i % w) list_below (omega (arith, mod-lt i z)))

  pub predictor_past : (i : ℕ) → 2 * (n - 1) ≤ i → None ≡ slice_get (flatten b.predictors) i
  predictor_past i l =
      sym (slice_get_past (flatten b.predictors) i (omega (arith, grid_length 2 (n - 1) b.predictors shaped.predictors)))
