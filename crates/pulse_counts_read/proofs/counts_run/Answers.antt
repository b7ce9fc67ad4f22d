-- A block's count and its low bits are stored behind those read so far.
use Rattle.std.proofs.Common.{◌≡◌, ◌∙◌, refl, arith, length-set}
use native.Mathlib.Nat.{sub-zero}
use Rattle.lists.proofs.AtMostLaws.{at_most_zeros, at_most_set}
use Rattle.tree.proofs.Ran.{ran_within}
use Rattle.tree.proofs.Through.{through_start, through_next, through_end}
use Rattle.symbol_reader.proofs.AlongLaws.{along_ran, ran_along}
use Rattle.silk.specs.Inner.Pulses.{blocks_from}
use Rattle.silk.proofs.PulseSteps.{counts_end, counts_next, blocks_stored}
use Rattle.pulse_counts_read.proofs.counts_run.Goals as goal

pub loop-i-init : goal.loop-i-init
unfolding blocks_from
loop-i-init c =
    record {
      through = rw (sub-zero c.args.n) (through_start c.args.r.now.core);
      packet = refl;
      size = refl;
      size_lows = refl;
      most = at_most_zeros 16 20;
      most_lows = at_most_zeros 10 20;
    }

pub loop-i-preserved : goal.loop-i-preserved
loop-i-preserved c =
    let l = c.loop-i in
    let g = l.invariant in
    let b = c.count_run-b.result in
    let e = c.count_run-b.ensures in
    let q = along_ran e.along in
    let a = rw g.packet at q in
    record {
      through =
          rw (blocks_stored l.counts l.lows l.i b.0 b.1 (omega (arith, g.size)) (omega (arith, g.size_lows)))
          (through_next _ g.through a (counts_next _ l.r.state _ c.args.level c.args.n l.i _ (omega arith) a.is) (omega arith));
      packet = e.along.packet ∙ g.packet;
      size = length-set l.counts l.i _ ∙ g.size;
      size_lows = length-set l.lows l.i _ ∙ g.size_lows;
      most = at_most_set 16 l.counts l.i b.0 g.most e.count_bound.0;
      most_lows = at_most_set 10 l.lows l.i b.1 g.most_lows e.count_bound.1;
    }

pub returns-clause-along : goal.returns-clause-along
returns-clause-along c =
    let l = c.loop-i in
    let n = c.args.n in
    let level = c.args.level in
    let e : c.loop-i.i ≡ c.args.n = omega arith in
    let a = through_end l.invariant.through (counts_end _ l.r.state level n l.i (omega arith)) in
    ran_along l.invariant.packet (ran_within (omega arith) (rw e at a))
