-- `index_lag_write::lag_tell_run` meets its contract: a delta where one is due, then the absolute lag. Assumes nothing.
use Rattle.std.proofs.Common.{pos, arith}
use Rattle.index_lag_write.proofs.lag_tell_run.Goals as goal

pub absolute_lag_tell-requires-clause-writing : goal.absolute_lag_tell-requires-clause-writing
absolute_lag_tell-requires-clause-writing c =
    let d = c.delta_tell-q.ensures c.args.khz (pos 0) c.args.x in
    record { core = d.core; few = omega (arith, d.most, c.requires.writing.few); rows = c.requires.writing.rows }

pub returns : goal.returns
returns c = λ before.
    let d = c.delta_tell-q.ensures c.args.khz before c.args.x in
    let l = c.absolute_lag_tell.ensures in
    record {
      is = rw d.is l.is;
      core = l.core;
      least = omega (arith, d.least, l.least);
      most = omega (arith, d.most, l.most);
    }
