-- Four pieces one behind the other. Assumes nothing.
use Rattle.std.proofs.Common.{ℕ, length, replicate, arith}
use lib.ListN.{length-replicate}
use Rattle.framing.specs.Padding.{pad_tail}
use Rattle.framing.specs.Writing.{count_byte}
use Rattle.numerals.proofs.Put.{put_then, put_as}
use Rattle.packet_pieces.specs.Inner.{front_of, middle_of}
use Rattle.packet_pieces.proofs.PieceLaws.{four, four_length}
use Rattle.packet_pieces.proofs.put_whole_run.Goals as goal

pub returns : goal.returns
returns c =
    let a = c.args in
    let ns = a.sizes.now in
    let front = front_of a.toc a.three (count_byte (length ns) a.varied a.k) a.k in
    let middle = middle_of a.varied ns in
    let zeros = replicate (pad_tail a.k) 0 in
    let first = rw c.count_byte-b.ensures.0 at c.put_front_run-first.ensures in
    let last = rw c.tail_run-zeros.ensures at c.put_same_run.ensures in
    put_as (put_then (put_then (put_then first c.put_middle_run-second.ensures) c.put_word_run-third.ensures) last)
    (four front middle a.frames.now zeros)
    (omega (arith, four_length front middle a.frames.now zeros, length-replicate {A = ℕ} (pad_tail a.k) 0))
