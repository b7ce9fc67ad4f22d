-- The splits of one more block: one without pulses before low bits says none.
use Rattle.std.proofs.Common.{refl, sym, ◌∙◌, arith}
use Rattle.silk.proofs.PulsePlans.{suited_at}
use Rattle.encode_pulses_run.proofs.Empty.{splits_untold}
use Rattle.encode_pulses_run.proofs.Rounds.{block_size, round_start, round_next, round_end}
use Rattle.encode_pulses_run.proofs.splits.Goals as goal
use Rattle.encode_pulses_run.proofs.splits.Goals.{then-c-ne0, else-c-ne0}

pub loop-i-init : goal.loop-i-init
loop-i-init c = round_start c.requires.core

pub block_splits_run-w-requires-clause-part_len : goal.block_splits_run-w-requires-clause-part_len
block_splits_run-w-requires-clause-part_len c =
    let n = c.args.n in
    let i = c.loop-i.i in
    let h = c.loop-i-test.true in
    let p = c.requires.n_bound in
    let s = p.2 in
    let v = c.args.pulses.now in
    rw (c.from-c.ensures, c.from-j.ensures) (block_size v n i p.1 h, s.most i, s.few i, sym (suited_at _ _ _ n v s i h))

pub loop-i-preserved : goal.loop-i-preserved
loop-i-preserved c =
    let g = c.loop-i.invariant in
    let t = c.loop-i-test.true in
    elim c.if-c-ne0.branch [
      | then-c-ne0 a ↦
          rw (a.buf-is, a.w-is)
          (round_next g t (rw (c.from-c.ensures, c.from-j.ensures) at a.block_splits_run-w.ensures) a.block_splits_run-w.auto.buf)
      | else-c-ne0 a ↦
          rw (a.buf-is, a.w-is)
          (round_next g t (splits_untold _ _ (sym c.from-c.ensures ∙ omega (arith, a.if-c-ne0.false)) g.0.midway.core) refl)
    ]

pub returns : goal.returns
returns c = round_end c.loop-i.invariant c.loop-i-test.false
