-- One more part, which counts if it has pulses.
use Rattle.std.proofs.Common.{◌≡◌, ◌+◌, ◌<◌, ◌≤◌, ℕ, length, get_or, take, arith, add-one}
use lib.Dec.{eqb}
use lib.Seq.{take-suc}
use Rattle.deciding.proofs.Choice.{chosen}
use Rattle.pulse_shell_splits.specs.Inner.{parts_of}
use Rattle.pulse_shell_spoken.specs.Inner.{no_part}
use Rattle.pulse_shell_spoken.proofs.Parts.{part_at, parts_length}
use Rattle.pulse_shell_spoken.proofs.Gather.{gathered_none, gathered_next}
use Rattle.pulse_shell_spoken.proofs.spoken_of_run.Goals as goal

pub loop-k-init : goal.loop-k-init
loop-k-init c = record { are = gathered_none c.requires.sized; few = omega arith }

pub split_start_run-requires : goal.split_start_run-requires
split_start_run-requires c =
    let s = c.splits_of_run-s in
    let x = c.requires.x_len in
    let a = part_at c.args.x.now s.result.all s.result.left c.loop-k.k c.loop-k-test.true (omega (arith, x.1, x.2)) s.ensures.0 s.ensures.1 in
    (omega (arith, c.from.ensures, a.table, a.within.table), omega (arith, c.from-in-loop-k.ensures, a.all_is, a.within.most))

pub loop-k-preserved : goal.loop-k-preserved
loop-k-preserved c =
    let l = c.loop-k in
    let i = l.invariant in
    let y = c.args.x.now in
    let s = c.splits_of_run-s in
    let x = c.requires.x_len in
    let a = part_at y s.result.all s.result.left l.k c.loop-k-test.true (omega (arith, x.1, x.2)) s.ensures.0 s.ensures.1 in
    let q = get_or (parts_of 4 y) l.k no_part in
    let n = get_or s.result.all l.k 0 in
    let m : c.loop-k.k < length (parts_of 4 c.args.x.now) = omega (arith, parts_length y) in
    let e = c.from-in-loop-k.ensures in
    record {
      are =
          rw (add-one, take-suc (parts_of 4 y) l.k no_part m, c.counted-n.ensures)
          (gathered_next (take l.k (parts_of 4 y)) q _ _ _ i.are (omega (arith, i.few)) a.all_is
          (λ h.
          record {
            within = a.within;
            some = omega (arith, a.all_is);
            stands = rw (c.from.ensures, e, a.table, a.all_is) at (c.split_start_run.ensures (omega (arith, h, e)));
            all_is = a.all_is;
            left_is = a.left_is;
            left_most = a.left_most;
          }));
      few = rw c.counted-n.ensures (chosen (λ (r : ℕ). r ≤ l.k + 1) (eqb n 0) (λ t. omega (arith, i.few)) (λ t. omega (arith, i.few)));
    }
