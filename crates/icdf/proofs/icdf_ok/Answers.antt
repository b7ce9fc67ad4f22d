-- An empty table fails; of another, `falls` tests the entries. Assumes nothing.
use Rattle.std.proofs.Common.{◌≡◌, ◌∙◌, sym, arith, length}
use borrow.Author.Tests.{eqb-true}
use Rattle.bitlen.proofs.Shift.{one_shl}
use Rattle.icdf.specs.Test.{icdf_ok}
use Rattle.icdf.proofs.Entries.{none_ok}
use Rattle.icdf.proofs.icdf_ok.Goals as goal

pub returns-then-is_empty : goal.returns-then-is_empty
returns-then-is_empty c =
    let e : length c.args.table.now ≡ 0 = eqb-true _ 0 (sym c.is_empty.ensures ∙ c.if-is_empty.true) in
    none_ok c.args.scale c.args.table.now (omega arith)

pub returns-else-is_empty : goal.returns-else-is_empty
unfolding icdf_ok
returns-else-is_empty c = rw (c.falls.ensures, one_shl c.args.scale (omega (arith, c.requires.1)))
