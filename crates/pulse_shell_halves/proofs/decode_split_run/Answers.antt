-- No question for no pulses, else one by the row of p pulses.
use Rattle.std.proofs.Common.{◌+◌, ◌*◌, refl, arith}
use Rattle.sheet.proofs.Places.{stands_in, lent}
use Rattle.sheet.proofs.SheetRule.{row_good}
use Rattle.symbol_reader.proofs.AlongLaws.{ran_along}
use Rattle.silk.proofs.PulseSteps.{split_none, split_some}
use Rattle.pulse_shell_halves.proofs.decode_split_run.Goals as goal

pub returns-then-p-eq0-clause-along : goal.returns-then-p-eq0-clause-along
returns-then-p-eq0-clause-along c = ran_along refl (split_none c.args.table c.args.p c.if-p-eq0.true c.args.r.now.core)

pub symbol_run-requires-clause-icdf : goal.symbol_run-requires-clause-icdf
symbol_run-requires-clause-icdf c =
    let s = stands_in c.requires.pulse_rows.is (c.split_start_run-start.ensures (omega arith)) in
    rw (lent _ s refl) (row_good (58 + c.args.table * 16 + c.args.p) (omega arith))

pub returns-clause-along : goal.returns-clause-along
returns-clause-along c =
    let s = stands_in c.requires.pulse_rows.is (c.split_start_run-start.ensures (omega arith)) in
    let a = c.symbol_run.ensures in
    ran_along a.packet (split_some c.args.table c.args.p (omega arith) (lent _ s refl) a.took)
