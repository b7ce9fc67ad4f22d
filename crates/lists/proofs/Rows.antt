-- Rows one after the other in one list, and where each of them stands there; rows that are all of one width. Assumes nothing.
use Prim.Native.Nat.{ℕ, zero, suc, ◌+◌, ◌*◌, ◌/◌, ◌%◌, ◌≤◌, ◌<◌, suc-le-suc}
use mathlib.Core.Path.{◌≡◌, refl, sym, ap, ◌∙◌}
use mathlib.Core.Bool.{Bool, true, ◌&&◌}
use mathlib.Core.List.{List, [], ◌∷◌, flatten}
use native.Mathlib.Nat.{le_of_suc-le-suc, not-suc-le-zero, suc-mul, zero-mul, div-add-mod', mod-lt}
use native.Mathlib.Omega.{arith}
use borrow.Author.Tests.{eqb-true}
use lib.Dec.{eqb}
use lib.ListN.{length, get_or, take, drop, length-append, get_or-append, get_or-eq_default}
use lib.Seq.{take-append_seam, drop-append-add, get_or-append-add}
use Rattle.deciding.proofs.Both.{and_both}
use Rattle.lists.specs.Every.{every}
use Rattle.lists.proofs.EveryLaws.{every_at}

module _ {ℓ} {A : Type ℓ} where
  -- where row k starts: behind all rows before it
  abbrev pub start_of : List (List A) → ℕ → ℕ
  start_of [] k = 0
  start_of (r ∷ rs) zero = 0
  start_of (r ∷ rs) (suc k) = length r + start_of rs k

  -- row k stands there
  pub row_part : (rs : List (List A)) (k : ℕ) → k < length rs
      → take (length (get_or rs k [])) (drop (start_of rs k) (flatten rs)) ≡ get_or rs k []
  unfolding flatten
  row_part [] k h = absurd (not-suc-le-zero h)
  row_part (r ∷ rs) zero h = take-append_seam r (flatten rs)
  row_part (r ∷ rs) (suc k) h =
      ap (λ (l : List A). take (length (get_or rs k [])) l) (drop-append-add r (flatten rs) (start_of rs k))
      ∙ row_part rs k (le_of_suc-le-suc h)

  -- and ends within the list
  pub row_within : (rs : List (List A)) (k : ℕ) → k < length rs → start_of rs k + length (get_or rs k []) ≤ length (flatten rs)
  unfolding flatten
  row_within [] k h = absurd (not-suc-le-zero h)
  row_within (r ∷ rs) zero h = omega (arith, length-append r (flatten rs))
  row_within (r ∷ rs) (suc k) h = omega (arith, length-append r (flatten rs), row_within rs k (le_of_suc-le-suc h))

  -- inside a list the default does not matter
  pub get_d_inside : (l : List A) (i : ℕ) (d e : A) → i < length l → get_or l i d ≡ get_or l i e
  get_d_inside [] i d e h = absurd (not-suc-le-zero h)
  get_d_inside (x ∷ l) zero d e h = refl
  get_d_inside (x ∷ l) (suc i) d e h = get_d_inside l i d e (le_of_suc-le-suc h)

  -- ---- rows of one width

  -- n rows of w entries each
  pub record Grid (n w : ℕ) (rs : List (List A)) : Type 0 where
    pub count : length rs ≡ n
    pub width : (k : ℕ) → k < n → length (get_or rs k []) ≡ w

  abbrev pub grid_ok : ℕ → ℕ → List (List A) → Bool
  grid_ok n w rs = eqb (length rs) n && every (λ r. eqb (length r) w) rs

  pub grid_of : (n w : ℕ) (rs : List (List A)) → grid_ok n w rs ≡ true → Grid n w rs
  grid_of n w rs e =
      let p = and_both (eqb (length rs) n) (every (λ r. eqb (length r) w) rs) e in
      let c : length rs ≡ n = eqb-true _ _ p.0 in
      record { count = c; width = λ k h. eqb-true _ _ (every_at (λ r. eqb (length r) w) rs [] p.1 k (omega arith)) }

  less : (n w : ℕ) (r : List A) (rs : List (List A)) → Grid (suc n) w (r ∷ rs) → Grid n w rs
  less n w r rs g = record { count = omega (arith, g.count); width = λ k h. g.width (suc k) (suc-le-suc h) }

  pub grid_length : (n w : ℕ) (rs : List (List A)) → Grid n w rs → length (flatten rs) ≡ n * w
  unfolding flatten
  grid_length zero w [] g = sym (zero-mul w)
  grid_length (suc n) w [] g = absurd (omega (arith, g.count))
  grid_length zero w (r ∷ rs) g = absurd (omega (arith, g.count))
  grid_length (suc n) w (r ∷ rs) g =
      omega (arith, length-append r (flatten rs), g.width 0 (omega arith), grid_length n w rs (less n w r rs g), suc-mul n w)

  -- entry c of row k, and d where there is no row k
  pub grid_entry : (n w : ℕ) (rs : List (List A)) → Grid n w rs → (k c : ℕ) (d : A) → c < w
      → get_or (flatten rs) (k * w + c) d ≡ get_or (get_or rs k []) c d
  unfolding flatten
  grid_entry n w [] g k c d h = refl
  grid_entry zero w (r ∷ rs) g k c d h = absurd (omega (arith, g.count))
  grid_entry (suc n) w (r ∷ rs) g zero c d h =
      let e : zero * w + c ≡ c = omega (arith, zero-mul w) in
      let l : length r ≡ w = g.width 0 (omega arith) in
      rw e (get_or-append r (flatten rs) d c (omega arith))
  grid_entry (suc n) w (r ∷ rs) g (suc k) c d h =
      let l : length r ≡ w = g.width 0 (omega arith) in
      let e : suc k * w + c ≡ length r + (k * w + c) = omega (arith, suc-mul k w) in
      rw e (get_or-append-add r (flatten rs) (k * w + c) d ∙ grid_entry n w rs (less n w r rs g) k c d h)

  -- entry i, by the quotient and the remainder of i
  pub grid_at : (n w : ℕ) (rs : List (List A)) → Grid n w rs → 0 < w → (i : ℕ) (d : A)
      → get_or (flatten rs) i d ≡ get_or (get_or rs (i / w) []) (i % w) d
  grid_at n w rs g h i d =
      ap (λ (m : ℕ). get_or (flatten rs) m d) (sym (div-add-mod' i w)) ∙ grid_entry n w rs g (i / w) (i % w) d (mod-lt i h)

  -- and inside the list, with any two defaults
  pub grid_inside : (n w : ℕ) (rs : List (List A)) → Grid n w rs → 0 < w → (i : ℕ) (d e : A) → i < n * w
      → get_or (get_or rs (i / w) []) (i % w) d ≡ get_or (flatten rs) i e
  grid_inside n w rs g h i d e l =
      sym (grid_at n w rs g h i d) ∙ get_d_inside (flatten rs) i d e (omega (arith, grid_length n w rs g))

  pub grid_past : (n w : ℕ) (rs : List (List A)) → Grid n w rs → (i : ℕ) (d : A) → n * w ≤ i → get_or (flatten rs) i d ≡ d
  grid_past n w rs g i d h = get_or-eq_default (flatten rs) d (omega (arith, grid_length n w rs g))
