-- The part of the sheet is the rows'. Assumes nothing.
use Rattle.std.proofs.Common.{ℕ, List, ap, ◌∙◌, take, drop}
use Rattle.sheet.proofs.Places.{pulse_part}
use Rattle.tables.proofs.rows.pulse_rows.Goals as goal

pub returns : goal.returns
returns c = c.copy_from_slice.ensures.after ∙ ap (λ (l : List ℕ). take 909 (drop 566 l)) c.all_rows-all.ensures ∙ pulse_part
