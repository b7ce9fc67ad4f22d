-- The signs of one more block.
use Rattle.std.proofs.Common.{sym}
use Rattle.silk.proofs.PulsePlans.{suited_at}
use Rattle.encode_pulses_run.proofs.Rounds.{block_size, round_start, round_next, round_end}
use Rattle.encode_pulses_run.proofs.signs.Goals as goal

pub loop-i-init : goal.loop-i-init
loop-i-init c = round_start c.requires.core

pub block_signs_run-w-requires-clause-part_len : goal.block_signs_run-w-requires-clause-part_len
block_signs_run-w-requires-clause-part_len c =
    let n = c.args.f.blocks in
    let i = c.loop-i.i in
    let h = c.loop-i-test.true in
    let p = c.requires.blocks_bound in
    let v = c.args.pulses.now in
    (block_size v n i p.1 h, sym (suited_at _ _ _ n v c.requires.suited i h), p.2, p.3)

pub loop-i-preserved : goal.loop-i-preserved
loop-i-preserved c = let r = c.block_signs_run-w in round_next c.loop-i.invariant c.loop-i-test.true r.ensures r.auto.buf

pub returns : goal.returns
returns c = round_end c.loop-i.invariant c.loop-i-test.false
