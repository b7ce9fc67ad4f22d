-- No byte, or as many of 255 as there are turns and one more. Assumes nothing.
use Rattle.std.proofs.Common.{ℕ, ◌-◌, ◌/◌, arith}
use lib.ListN.{length-replicate}
use Rattle.numerals.proofs.Put.{put_none, put_then, put_as}
use Rattle.packet_padding.proofs.PadLaws.{pad_none, pad_some, pad_some_length}
use Rattle.packet_padding.proofs.put_padding_run.Goals as goal

pub returns-then-k-eq0 : goal.returns-then-k-eq0
returns-then-k-eq0 c = put_as (put_none _ _) (pad_none c.args.k c.if-k-eq0.true) (omega arith)

pub put_same_run-place-requires : goal.put_same_run-place-requires
put_same_run-place-requires c = omega (arith, pad_some_length c.args.k c.if-k-eq0.false)

pub put_byte_run-requires : goal.put_byte_run-requires
put_byte_run-requires c =
    let k = c.args.k in
    omega (
      arith,
      c.put_same_run-place.ensures.behind,
      length-replicate {A = ℕ} ((k - 1) / 255) 255,
      pad_some_length k c.if-k-eq0.false,
    )

pub returns-else-k-eq0 : goal.returns-else-k-eq0
returns-else-k-eq0 c =
    let k = c.args.k in
    let h = c.if-k-eq0.false in
    put_as (put_then c.put_same_run-place.ensures c.put_byte_run.ensures) (pad_some k h) (omega (arith, pad_some_length k h))
