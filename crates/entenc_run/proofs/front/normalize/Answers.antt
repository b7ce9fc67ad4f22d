-- One turn of those that are left.
use Rattle.std.proofs.Common.{◌≡◌, ◌*◌, sym, ap, ◌∙◌, arith}
use Rattle.entcode.specs.Flat.{Out, out}
use Rattle.entcode.proofs.FlatLaws.{settled_done, settled_turn}
use Rattle.entcode.specs.Inner.Writing.{turned}
use Rattle.entenc_run.proofs.Turns.{turn_ready}
use Rattle.entenc_run.proofs.front.normalize.Goals as goal

-- the range grows
grows : (o q : Out) → q ≡ turned o → q.state.rng ≡ 256 * o.state.rng
unfolding turned
grows o q e = ap (λ (x : Out). x.state.rng) e

pub loop-w-smaller : goal.loop-w-smaller
loop-w-smaller c =
    let l = c.loop-w in
    omega (arith, l.invariant.some, c.loop-w-test.true, grows _ _ c.turn-w.ensures)

pub loop-w-preserved : goal.loop-w-preserved
loop-w-preserved c =
    let l = c.loop-w in
    let i = l.invariant in
    let o = out l.buf l.w in
    let h = c.loop-w-test.true in
    let e = c.turn-w.ensures in record {
      rest = rw e (settled_turn o i.some h ∙ i.rest);
      ready = rw e (turn_ready o i.ready h);
      some = omega (arith, i.some, grows _ _ e);
    }

pub returns : goal.returns
returns c =
    let l = c.loop-w in
    sym (settled_done (out l.buf l.w) l.invariant.ready.roomy.fair c.loop-w-test.false) ∙ l.invariant.rest
