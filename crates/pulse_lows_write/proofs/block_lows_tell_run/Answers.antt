-- A block without low bits says none.
use Rattle.silk.proofs.PulseTold.{no_lows_told}
use Rattle.pulse_lows_write.proofs.block_lows_tell_run.Goals as goal

pub returns-then-n-eq0 : goal.returns-then-n-eq0
returns-then-n-eq0 c = no_lows_told c.args.n _ _ c.if-n-eq0.true c.requires.core
