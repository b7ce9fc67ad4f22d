-- How lines are put together. Assumes nothing.
use Prim.Native.Nat.{ℕ, ◌+◌, ◌<◌}
use mathlib.Core.Path.{◌≡◌, refl, sym, ap, ◌∙◌}
use mathlib.Core.List.{List, [], ◌∷◌, ◌++◌, append_assoc, append-nil}
use native.Mathlib.Numerals.{add-one}
use native.Mathlib.Omega.{arith}
use lib.IntN.{ℤ, pos}
use lib.ListN.{length, get_or, take}
use lib.Seq.{take-suc}
use Rattle.numerals.specs.Decimal.{decimal}
use Rattle.numerals.specs.Inner.{Put}
use Rattle.numerals.proofs.Put.{put_then, put_as}
use Rattle.listing.specs.Lines.{spaced, line, counted}

pub spaced_append : (xs ys : List ℤ) → spaced (xs ++ ys) ≡ spaced xs ++ spaced ys
unfolding spaced
spaced_append [] ys = refl
spaced_append (x ∷ xs) ys =
    ap (λ (l : List ℕ). (32 ∷ decimal x) ++ l) (spaced_append xs ys) ∙ sym (append_assoc (32 ∷ decimal x) (spaced xs) (spaced ys))

pub spaced_one : (x : ℤ) → spaced (x ∷ []) ≡ 32 ∷ decimal x
unfolding spaced
spaced_one x = append-nil (32 ∷ decimal x)

-- one number more
pub spaced_more : (xs : List ℤ) (i : ℕ) → i < length xs → spaced (take i xs) ++ (32 ∷ decimal (get_or xs i (pos 0))) ≡ spaced (take (i + 1) xs)
spaced_more xs i h =
    ap (λ (l : List ℕ). spaced (take i xs) ++ l) (sym (spaced_one (get_or xs i (pos 0))))
    ∙ sym (spaced_append (take i xs) (get_or xs i (pos 0) ∷ []))
    ∙ ap spaced (sym (rw add-one (take-suc xs i (pos 0) h)))

-- a line in two parts
pub line_parts : (first : List ℕ) (xs ys : List ℤ) → (first ++ spaced xs) ++ (spaced ys ++ (10 ∷ [])) ≡ line first (xs ++ ys)
unfolding line
line_parts first xs ys =
    append_assoc first (spaced xs) (spaced ys ++ (10 ∷ []))
    ∙ ap (λ (l : List ℕ). first ++ l) (sym (append_assoc (spaced xs) (spaced ys) (10 ∷ [])) ∙ ap (λ (l : List ℕ). l ++ (10 ∷ [])) (sym (spaced_append xs ys)))

-- a line put in parts: its start, further numbers, the newline
pub put_parts : (first : List ℕ) (xs ys : List ℤ) {n k : ℕ} {l m o p : List ℕ} {at i j e : ℕ}
    → Put n l at (first ++ spaced xs) m i → Put k m i (spaced ys) o j → Put 1 o j (10 ∷ []) p e
    → Put (n + (k + 1)) l at (line first (xs ++ ys)) p e
put_parts first xs ys a b c = put_as (put_then a (put_then b c)) (line_parts first xs ys) (omega arith)

-- the same of a word, how many numbers follow, and these
pub put_counted : (word : List ℕ) (xs : List ℤ) {n k : ℕ} {l m o p : List ℕ} {at i j e : ℕ}
    → Put n l at (word ++ spaced (pos (length xs) ∷ [])) m i → Put k m i (spaced xs) o j → Put 1 o j (10 ∷ []) p e
    → Put (n + (k + 1)) l at (counted word xs) p e
unfolding counted
put_counted word xs a b c = put_parts word (pos (length xs) ∷ []) xs a b c
