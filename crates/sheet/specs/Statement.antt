-- What is promised of the sheet and of the books: each a type that the files of `proofs/` prove. Assumes nothing.
use Rattle.std.specs.Prelude.{◌≡◌, true, eqb}
use mathlib.Core.List.{map, flatten}
use Rattle.lists.specs.Every.{every}
use Rattle.sheet.specs.Sheet.{sheet, directory}
use Rattle.sheet.specs.Rows.{rows, part_of}
use Rattle.sheet.specs.Directory.{named}
use Rattle.sheet.specs.Probabilities.{chances, inverse, total}
use Rattle.sheet.specs.Books.{Book, narrow_book, wide_book}
use Rattle.sheet.specs.Weights.{weights_of, rises}

-- ---- the rows (RFC 6716, section 4.2)

-- each row that the directory says is the inverse of its probabilities
abbrev pub RowsPrinted : Type 0
RowsPrinted = rows ≡ map inverse chances

-- the probabilities of a row are 256 in all
abbrev pub ChancesWhole : Type 0
ChancesWhole = every (λ ps. eqb (total ps) 256) chances ≡ true

-- the rows one behind the other are the sheet: none overlaps another, and nothing lies between them
abbrev pub SheetWhole : Type 0
SheetWhole = flatten rows ≡ sheet

-- a row asked for by its name is the part of the sheet that the directory says of that name
abbrev pub NamesFound : Type 0
NamesFound = map (λ p. named p.name) directory ≡ map part_of directory

-- ---- the weights (RFC 6716, section 4.2.7.5.3)

-- a book's weights are by the rule
pub record ByRule (b : Book) : Type 0 where
  pub all : map weights_of b.vectors ≡ b.weights

abbrev pub NarrowByRule : Type 0
NarrowByRule = ByRule narrow_book

abbrev pub WideByRule : Type 0
WideByRule = ByRule wide_book

-- the values of each vector of a book rise from 0 to 256 in steps of 1 to 47, so that no weight divides by 0
abbrev pub Rising : Book → Type 0
Rising b = every rises b.vectors ≡ true

abbrev pub NarrowRises : Type 0
NarrowRises = Rising narrow_book

abbrev pub WideRises : Type 0
WideRises = Rising wide_book
