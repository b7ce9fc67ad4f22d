-- The sums of a block's places are what its parts have. Assumes nothing.
use Prim.Native.Nat.{ℕ, zero, suc, ◌+◌}
use mathlib.Core.Path.{◌≡◌, refl, sym, ap, ap₂, ◌∙◌}
use mathlib.Core.List.{List, [], ◌∷◌, map}
use native.Mathlib.Omega.{arith}
use lib.ListN.{length, get_or, drop, length-drop}
use lib.Seq.{drop-cons}
use Rattle.silk.specs.PulseSyntax.{total}
use Rattle.pulse_shell_splits.specs.Inner.{parts_of, all_of, left_of}

-- ---- entries

-- n entries from k on
abbrev pub entries_from : ℕ → ℕ → List ℕ → List ℕ
entries_from zero k s = []
entries_from (suc n) k s = get_or s k 0 ∷ entries_from n (suc k) s

entries_from_lem : (n k : ℕ) (s : List ℕ) → length s ≡ k + n → drop k s ≡ entries_from n k s
entries_from_lem zero k s e = none (drop k s) (length-drop k s ∙ omega arith)
  where
    none : (l : List ℕ) → length l ≡ 0 → l ≡ []
    none [] h = refl
    none (x ∷ l) h = absurd (omega arith)
entries_from_lem (suc n) k s e =
    drop-cons s k 0 (omega arith) ∙ ap {B = List ℕ} (λ (l : List ℕ). get_or s k 0 ∷ l) (entries_from_lem n (suc k) s (omega arith))

-- a list is its entries
pub entries : (n : ℕ) (s : List ℕ) → length s ≡ n → s ≡ entries_from n 0 s
entries n s e = entries_from_lem n 0 s (omega arith)

-- ---- the sums of 16 places

cons_same : {x y : ℕ} {s t : List ℕ} → x ≡ y → s ≡ t → x ∷ s ≡ y ∷ t
cons_same e f = ap₂ (λ (x : ℕ) (s : List ℕ). x ∷ s) e f

-- the sums that are made of the places x, for p pulses
module _ (x : ℕ → ℕ) where
  abbrev two : ℕ → ℕ
  two i = x i + x (i + 1)

  abbrev four : ℕ → ℕ
  four i = two i + two (i + 2)

  abbrev pub eight : ℕ → ℕ
  eight i = four i + four (i + 4)

  abbrev pub all_sums : ℕ → List ℕ
  all_sums p =
      p ∷ eight 0 ∷ four 0 ∷ two 0 ∷ two 2 ∷ four 4 ∷ two 4 ∷ two 6 ∷ eight 8 ∷ four 8 ∷ two 8 ∷ two 10 ∷ four 12 ∷ two 12 ∷ two 14 ∷ []

  abbrev pub left_sums : List ℕ
  left_sums = eight 0 ∷ four 0 ∷ two 0 ∷ x 0 ∷ x 2 ∷ two 4 ∷ x 4 ∷ x 6 ∷ four 8 ∷ two 8 ∷ x 8 ∷ x 10 ∷ two 12 ∷ x 12 ∷ x 14 ∷ []

  abbrev sixteen : List ℕ
  sixteen = x 0 ∷ x 1 ∷ x 2 ∷ x 3 ∷ x 4 ∷ x 5 ∷ x 6 ∷ x 7 ∷ x 8 ∷ x 9 ∷ x 10 ∷ x 11 ∷ x 12 ∷ x 13 ∷ x 14 ∷ x 15 ∷ []

  alls : all_sums (total sixteen) ≡ map all_of (parts_of 4 sixteen)
  unfolding parts_of total
  alls =
      cons_same (omega arith) (cons_same (omega arith) (cons_same (omega arith) (cons_same (omega arith) (cons_same (omega arith)
      (cons_same (omega arith) (cons_same (omega arith) (cons_same (omega arith) (cons_same (omega arith) (cons_same (omega arith)
      (cons_same (omega arith) (cons_same (omega arith) (cons_same (omega arith) (cons_same (omega arith) (cons_same (omega arith)
      refl))))))))))))))

  lefts : left_sums ≡ map left_of (parts_of 4 sixteen)
  unfolding parts_of total
  lefts =
      cons_same (omega arith) (cons_same (omega arith) (cons_same (omega arith) (cons_same (omega arith) (cons_same (omega arith)
      (cons_same (omega arith) (cons_same (omega arith) (cons_same (omega arith) (cons_same (omega arith) (cons_same (omega arith)
      (cons_same (omega arith) (cons_same (omega arith) (cons_same (omega arith) (cons_same (omega arith) (cons_same (omega arith)
      refl))))))))))))))

abbrev pub place_of : List ℕ → ℕ → ℕ
place_of s i = get_or s i 0

pub places_total : (s : List ℕ) → length s ≡ 16 → eight (place_of s) 0 + eight (place_of s) 8 ≡ total s
unfolding total
places_total s e = omega (arith, ap total (entries 16 s e))

-- of each split of 16 places: all pulses, and those of the left half
pub all_sums_lem : (s : List ℕ) (p : ℕ) → length s ≡ 16 → total s ≡ p → all_sums (place_of s) p ≡ map all_of (parts_of 4 s)
all_sums_lem s p e f =
    let t = entries 16 s e in
    ap (all_sums (place_of s)) (sym f ∙ ap total t) ∙ alls (place_of s) ∙ ap (λ (v : List ℕ). map all_of (parts_of 4 v)) (sym t)

pub left_sums_lem : (s : List ℕ) → length s ≡ 16 → left_sums (place_of s) ≡ map left_of (parts_of 4 s)
left_sums_lem s e = lefts (place_of s) ∙ ap (λ (v : List ℕ). map left_of (parts_of 4 v)) (sym (entries 16 s e))
