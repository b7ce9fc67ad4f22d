-- One turn of those that are left.
use Rattle.std.proofs.Common.{sym, ◌∙◌, arith}
use Rattle.entcode.proofs.ReaderLaws.{settled_turn, settled_done}
use Rattle.entdec_bytes.proofs.Turns.{turn_on}
use Rattle.entdec_bytes.proofs.ec_dec_normalize.Goals as goal

pub loop-d-smaller : goal.loop-d-smaller
loop-d-smaller c =
    let h = c.loop-d.invariant.turning in
    let l = c.loop-d-test.true in
    rw c.turn-d.ensures (omega arith)

pub loop-d-preserved : goal.loop-d-preserved
loop-d-preserved c =
    let i = c.loop-d.invariant in
    let l = c.loop-d-test.true in
    let d = c.loop-d.d in
    let y = c.type_inv.packet d.offs in
    rw c.turn-d.ensures
    (record { rest = settled_turn _ d (omega arith) l ∙ i.rest; turning = turn_on _ d (omega (arith, y)) i.turning l })

pub returns : goal.returns
returns c = sym (settled_done _ _ c.loop-d-test.false) ∙ c.loop-d.invariant.rest
