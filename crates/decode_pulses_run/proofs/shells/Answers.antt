-- The splits of one more block.
use Rattle.std.proofs.Common.{◌∙◌, refl}
use Rattle.silk.proofs.PulseRounds.{splitting_start, splitting_next, splitting_end}
use Rattle.decode_pulses_run.proofs.shells.Goals as goal

pub loop-i-init : goal.loop-i-init
loop-i-init c = record { going = splitting_start _ _ _ _ _ _ c.requires.n_bound.1 c.args.r.now.core; packet = refl }

pub loop-i-preserved : goal.loop-i-preserved
loop-i-preserved c =
    let l = c.loop-i in
    let i = l.invariant in
    let a = c.silk_shell_decoder_run in
    record {
      going =
          splitting_next _ _ _ _ _ l.pulses l.r.state l.i i.going c.loop-i-test.true (c.requires.n_bound.2 l.i) a.new.places _
          (rw (i.packet, c.from.ensures) at a.ensures.placed);
      packet = a.ensures.packet ∙ i.packet;
    }

pub returns-clause-split : goal.returns-clause-split
returns-clause-split c =
    let l = c.loop-i in splitting_end _ _ _ _ _ l.pulses l.r.state l.i l.invariant.going c.loop-i-test.false
