-- The tables of the rows, of the narrow book and of the wide book are parts of one list. Assumes nothing.
use Rattle.std.proofs.Common.{arith}
use Rattle.table_entries.proofs.EntryLaws.{table_rows, table_narrow, table_wide, entry_told}
use Rattle.table_entries.proofs.tg_table_entry.Goals as goal
use Rattle.table_entries.proofs.tg_table_entry.Goals.{in-0-to-2, in-3-to-7, in_default}

pub returns : goal.returns
returns c =
    let t = c.args.table in
    let i = c.args.place in
    let told = c.unwrap_or.ensures in
    elim c.if-table-lt3.branch [
      | in-0-to-2 w ↦ entry_told t i told w.entry-is w.row_entry-entry.ensures (table_rows t (omega arith))
      | in-3-to-7 w ↦ entry_told t i told w.entry-is w.book_entry-entry.ensures (table_narrow t (omega arith) (omega arith))
      | in_default w ↦ entry_told t i told w.entry-is w.book_entry-entry-in_default.ensures (table_wide t (omega arith))
    ]
