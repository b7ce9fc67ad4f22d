-- One byte or two. Assumes nothing.
use Rattle.std.proofs.Common.{length, arith, ap}
use Rattle.numerals.proofs.Put.{put_then, put_as}
use Rattle.packet_shortest.proofs.CodeLaws.{code_short, code_long}
use Rattle.packet_pieces.proofs.put_length_run.Goals as goal

pub put_byte_run-requires : goal.put_byte_run-requires
put_byte_run-requires c = omega (arith, ap length (code_short c.args.n c.if-n-lt252.true))

pub returns-then-n-lt252 : goal.returns-then-n-lt252
returns-then-n-lt252 c =
    let e = code_short c.args.n c.if-n-lt252.true in
    put_as c.put_byte_run.ensures e (omega (arith, ap length e))

pub put_byte_run-place-requires : goal.put_byte_run-place-requires
put_byte_run-place-requires c = omega (arith, ap length (code_long c.args.n c.if-n-lt252.false))

pub put_byte_run-requires-else-n-lt252 : goal.put_byte_run-requires-else-n-lt252
put_byte_run-requires-else-n-lt252 c = omega (arith, c.put_byte_run-place.ensures.behind, ap length (code_long c.args.n c.if-n-lt252.false))

pub returns-else-n-lt252 : goal.returns-else-n-lt252
returns-else-n-lt252 c =
    let e = code_long c.args.n c.if-n-lt252.false in
    put_as (put_then c.put_byte_run-place.ensures c.put_byte_run-else-n-lt252.ensures) e (omega (arith, ap length e))
