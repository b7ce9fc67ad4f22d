-- One byte more. Assumes nothing.
use Rattle.std.proofs.Common.{arith, rules, sym}
use lib.Seq.{take-suc}
use native.Mathlib.Numerals.{add-one}
use Rattle.numerals.proofs.Put.{put_none, put_then, put_as}
use Rattle.listing.proofs.put_word_run.Goals as goal

pub loop-byte-init : goal.loop-byte-init
loop-byte-init c = (search rules, put_none _ _)

pub loop-byte-preserved : goal.loop-byte-preserved
loop-byte-preserved c =
    let w = c.args.word.now in
    let i = c.loop-byte.byte-index in (
      search rules,
      put_as (put_then c.loop-byte.invariant.1 c.put_byte_run-place.ensures) (sym (rw add-one (take-suc w i 0 (omega arith)))) (omega arith),
    )
