-- A word and numbers, and a newline behind them. Assumes nothing.
use Rattle.std.proofs.Common.{[], ◌∷◌, append_assoc, arith}
use Rattle.numerals.proofs.Put.{put_then, put_as}
use Rattle.listing.specs.Lines.{spaced, line}
use Rattle.listing.proofs.put_line_run.Goals as goal

pub returns : goal.returns
unfolding line
returns c =
    put_as (put_then c.put_start_run-place.ensures c.put_byte_run.ensures)
    (append_assoc c.args.word.now (spaced c.args.xs.now) (10 ∷ [])) (omega arith)
