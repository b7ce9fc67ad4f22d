-- The part of the sheet is the rows'. Assumes nothing.
use Rattle.std.proofs.Common.{ℕ, List, ap, ◌∙◌, take, drop}
use Rattle.sheet.proofs.Places.{index_part}
use Rattle.tables.proofs.rows.index_rows.Goals as goal

pub returns : goal.returns
returns c = c.copy_from_slice.ensures.after ∙ ap (λ (l : List ℕ). take 556 (drop 10 l)) c.all_rows-all.ensures ∙ index_part
