-- The rows that the directory says (RFC 6716, section 4.2), and those of the three parts that code lends. Assumes nothing.
use Rattle.std.specs.Prelude.{ℕ, List, map, take, drop}
use Rattle.sheet.specs.Sheet.{sheet, Place, directory}

-- the part of the sheet that a place says
abbrev pub part_of : Place → List ℕ
part_of p = take p.size (drop p.start sheet)

unfoldable pub rows : List (List ℕ)
unfolding sheet directory
rows = map part_of directory

-- the rows of a header: 0 and 1
unfoldable pub header_rows : List (List ℕ)
unfolding rows
header_rows = take 2 rows

-- of side indices: 2 to 45
unfoldable pub index_rows : List (List ℕ)
unfolding rows
index_rows = take 44 (drop 2 rows)

-- of pulses: 46 to 165
unfoldable pub pulse_rows : List (List ℕ)
unfolding rows
pulse_rows = drop 46 rows
