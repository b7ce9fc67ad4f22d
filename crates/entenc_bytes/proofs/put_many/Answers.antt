-- Each turn puts the first of the bytes that are left.
use Rattle.std.proofs.Common.{sym, ◌∙◌}
use Rattle.entenc_bytes.proofs.Placing.{put_roomy, many_one, many_none}
use Rattle.entenc_bytes.proofs.put_many.Goals as goal

pub loop-preserved : goal.loop-preserved
loop-preserved c =
    let i = c.loop.invariant in
    let e = c.put_byte-w.ensures in record {
      rest = rw e (many_one _ c.loop.counter _ _ c.loop-test.true ∙ i.rest);
      roomy = rw e (put_roomy _ _ i.roomy);
    }

pub returns : goal.returns
returns c =
    let i = c.loop.invariant in
    sym (many_none _ c.loop.counter _ _ i.roomy.fair c.loop-test.false) ∙ i.rest
