-- One block more. Assumes nothing.
use Rattle.std.proofs.Common.{◌≡◌, ◌+◌, ◌-◌, ◌*◌, add-one, arith, rules, drop}
use lib.ListN.{length-drop}
use lib.Seq.{length-take-le}
use Rattle.numerals.proofs.Put.{put_none, put_then, put_as}
use Rattle.frame_text.specs.FrameText.{block_lines}
use Rattle.frame_text_pulses.proofs.BlockLaws.{block_more}
use Rattle.frame_text_pulses.proofs.put_blocks.Goals as goal

pub loop-i-init : goal.loop-i-init
unfolding block_lines
loop-i-init c = (search rules, put_none _ _)

pub put_block-place-requires : goal.put_block-place-requires
put_block-place-requires c =
    let i = c.loop-i.i in
    let p = c.args.pulses.now in
    let e : 16 * i + 16 - 16 * i ≡ 16 = omega arith in
    let s = c.loop-i.invariant.1 in
    (omega (arith, s.behind, s.most), rw e (length-take-le 16 (drop (16 * i) p) (omega (arith, length-drop (16 * i) p))))

pub loop-i-preserved : goal.loop-i-preserved
loop-i-preserved c =
    let i = c.loop-i.i in
    let e : 16 * i + 16 - 16 * i ≡ 16 = omega arith in (
      search rules,
      put_as (put_then c.loop-i.invariant.1 (rw e at c.put_block-place.ensures)) (rw add-one (block_more i c.args.pulses.now)) (omega arith),
    )
