-- Every constant by a number, as one flat list. Assumes nothing.
use Rattle.std.specs.Prelude.{ℕ, get_or}
use mathlib.Core.List.{List, [], ◌∷◌, ◌++◌, flatten}
use Rattle.sheet.specs.Rows.{header_rows, index_rows, pulse_rows}
use Rattle.sheet.specs.Books.{Book, narrow_book, wide_book}

-- the tables of a book
abbrev pub book_tables : Book → List (List ℕ)
book_tables b = flatten b.vectors ∷ flatten b.weights ∷ flatten b.selectors ∷ flatten b.predictors ∷ b.gaps ∷ []

-- the tables of the rows
abbrev pub row_tables : List (List ℕ)
row_tables = flatten header_rows ∷ flatten index_rows ∷ flatten pulse_rows ∷ []

-- table t: 0 to 2 rows, 3 to 7 the narrow book, 8 to 12 the wide book, no entries for any other number
unfoldable pub table_of : ℕ → List ℕ
table_of t = get_or (row_tables ++ (book_tables narrow_book ++ book_tables wide_book)) t []

-- what stands past a table's end
abbrev pub no_entry : ℕ
no_entry = 65536

abbrev pub entry_of : ℕ → ℕ → ℕ
entry_of t i = get_or (table_of t) i no_entry
