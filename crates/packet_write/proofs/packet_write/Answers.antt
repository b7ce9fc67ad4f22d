-- `packet_write` meets its contract. Assumes nothing.
use Rattle.std.proofs.Common.{sym, arith}
use Rattle.packet_write.proofs.WholeLaws.{planned, wrote_is, kept_is}
use Rattle.packet_write.proofs.packet_write.Goals as goal

pub write_run-requires-clause-writable : goal.write_run-requires-clause-writable
write_run-requires-clause-writable c = planned c.in-Ok.ensures

pub overflow_cast-result : goal.overflow_cast-result
overflow_cast-result c = let w = planned c.in-Ok.ensures in omega (arith, w.room, w.buffer)

pub returns-in-Ok : goal.returns-in-Ok
returns-in-Ok c =
    let p = c.in-Ok.ensures in
    wrote_is _ _ _ _ _ _ _ c.write_run.ensures (sym p.rule) p.runs.length

pub returns-in-Err : goal.returns-in-Err
returns-in-Err c = rw c.from.ensures (kept_is _ _ _ _ _ c.in-Err.refusal c.in-Err.ensures.rule)
