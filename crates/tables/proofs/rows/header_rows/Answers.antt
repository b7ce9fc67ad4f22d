-- The part of the sheet is the rows'. Assumes nothing.
use Rattle.std.proofs.Common.{ℕ, List, ap, ◌∙◌, take}
use Rattle.sheet.proofs.Places.{header_part}
use Rattle.tables.proofs.rows.header_rows.Goals as goal

pub returns : goal.returns
returns c = c.copy_from_slice.ensures.after ∙ ap (λ (l : List ℕ). take 10 l) c.all_rows-all.ensures ∙ header_part
