-- Each return has the tests that led to it. Assumes nothing.
use Rattle.std.proofs.Common.{arith, refl}
use borrow.Author.Tests.{lt-ltb, le-ltb}
use Rattle.bitlen.proofs.Shift.{one_shl}
use Rattle.icdf.specs.Test.{symbol_ok}
use Rattle.icdf.proofs.Entries.{before_first, before_later}
use Rattle.icdf.proofs.symbol_ok.Goals as goal

pub returns-then-k-eq0 : goal.returns-then-k-eq0
unfolding symbol_ok
returns-then-k-eq0 c =
    let a = c.args in
    let f = before_first a.scale a.symbol a.table.now c.if-k-eq0.true in
    rw (c.from.ensures, lt-ltb _ _ c.if-k-table.true, f, one_shl a.scale (omega (arith, c.requires.1)))

pub returns-else-k-eq0 : goal.returns-else-k-eq0
unfolding symbol_ok
returns-else-k-eq0 c =
    let l = before_later c.args.scale c.args.symbol c.args.table.now c.if-k-eq0.false in
    rw (lt-ltb _ _ c.if-k-table.true, l) refl

pub returns-else-k-table : goal.returns-else-k-table
unfolding symbol_ok
returns-else-k-table c = rw (le-ltb _ _ c.if-k-table.false)
