-- One byte of those that are left.
use Rattle.std.proofs.Common.{◌∙◌, arith}
use Rattle.entcode.specs.Reader.{Bytes}
use Rattle.entdec_bytes.proofs.Window.{fetch_windowed, fill_more, fill_done}
use Rattle.entdec_bytes.proofs.fill_up.Goals as goal

pub loop-d-smaller : goal.loop-d-smaller
loop-d-smaller c =
    let l = c.loop-d-test.true in
    rw c.fetch_byte-d.ensures (omega arith)

pub loop-d-preserved : goal.loop-d-preserved
loop-d-preserved c =
    let i = c.loop-d.invariant in
    let l = c.loop-d-test.true in
    let d = c.loop-d.d in
    let y : Bytes c.args.packet.now = λ i. omega (arith, c.type_inv.packet i) in
    rw c.fetch_byte-d.ensures
    (record { rest = fill_more _ d l ∙ i.rest; windowed = fetch_windowed _ d y i.windowed l })

pub returns : goal.returns
returns c =
    let i = c.loop-d.invariant in
    fill_done _ _ c.loop-d-test.false i.windowed.used ∙ i.rest
