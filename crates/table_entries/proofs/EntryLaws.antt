-- A table's number beside the lists that the tables stand in. Assumes nothing.
use Prim.Native.Nat.{ℕ, ◌+◌, ◌-◌, ◌≤◌, ◌<◌}
use mathlib.Core.Path.{◌≡◌, sym, ap, ◌∙◌}
use mathlib.Core.List.{List, [], ◌++◌}
use native.Mathlib.Omega.{arith}
use lib.ListN.{get_or, get_or-append}
use lib.Seq.{get_or-append-add}
use Rattle.std.specs.Prelude.{Option}
use Rattle.std.specs.List.{slice_get}
use Rattle.std.specs.Option.{unwrap_or}
use Rattle.std.proofs.lemmas.Option.{unwrap_or-slice_get}
use Rattle.sheet.specs.Books.{narrow_book, wide_book}
use Rattle.table_entries.specs.Entries.{row_tables, book_tables, table_of, no_entry, entry_of}

abbrev both_books : List (List ℕ)
both_books = book_tables narrow_book ++ book_tables wide_book

pub table_rows : (t : ℕ) → t < 3 → table_of t ≡ get_or row_tables t []
unfolding table_of
table_rows t h = get_or-append row_tables both_books [] t h

behind_rows : (t : ℕ) → 3 ≤ t → table_of t ≡ get_or both_books (t - 3) []
unfolding table_of
behind_rows t h =
    let e : t ≡ 3 + (t - 3) = omega arith in
    ap (λ (m : ℕ). get_or (row_tables ++ both_books) m []) e ∙ get_or-append-add row_tables both_books (t - 3) []

pub table_narrow : (t : ℕ) → 3 ≤ t → t < 8 → table_of t ≡ get_or (book_tables narrow_book) (t - 3) []
table_narrow t l h = behind_rows t l ∙ get_or-append (book_tables narrow_book) (book_tables wide_book) [] (t - 3) (omega arith)

pub table_wide : (t : ℕ) → 8 ≤ t → table_of t ≡ get_or (book_tables wide_book) (t - 8) []
table_wide t l =
    let e : t - 3 ≡ 5 + (t - 8) = omega arith in
    behind_rows t (omega arith)
    ∙ ap (λ (m : ℕ). get_or both_books m []) e
    ∙ get_or-append-add (book_tables narrow_book) (book_tables wide_book) (t - 8) []

-- the number for an entry of table t that stands in the list l
pub entry_told : (t i : ℕ) {x : ℕ} {q r : Option ℕ} {l : List ℕ} → x ≡ unwrap_or q no_entry → q ≡ r → r ≡ slice_get l i → table_of t ≡ l
    → x ≡ entry_of t i
entry_told t i {x} {q} {r} {l} h d f e =
    h ∙ ap (λ (o : Option ℕ). unwrap_or o no_entry) (d ∙ f) ∙ unwrap_or-slice_get l i no_entry
    ∙ ap (λ (m : List ℕ). get_or m i no_entry) (sym e)
