-- The rows of weights follow each other. Assumes nothing.
use Rattle.std.proofs.Common.{arith}
use Rattle.table_entries.proofs.GridLaws.{past, inside, some, shaped}
use Rattle.table_entries.proofs.book.weights_entry.Goals as goal

pub returns-then-v-lt32 : goal.returns-then-v-lt32
returns-then-v-lt32 g c =
    let k = g.met.B.Book.laws in
    inside (shaped k).weights (omega (arith, some k)) c.args.place c.if-v-lt32.true c.book_weights_run.ensures c.from.ensures

pub returns-else-v-lt32 : goal.returns-else-v-lt32
returns-else-v-lt32 g c =
    let k = g.met.B.Book.laws in past (shaped k).weights (omega (arith, some k)) c.args.place c.if-v-lt32.false
