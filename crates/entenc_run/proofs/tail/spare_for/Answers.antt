-- A window with room stays as it is.
use Rattle.std.proofs.Common.{◌∙◌, arith}
use Rattle.entcode.specs.Flat.{out}
use Rattle.entcode.proofs.FlatLaws.{spared_full, spared_free}
use Rattle.entenc_run.proofs.tail.spare_for.Goals as goal

pub returns-then-w-n-gt32 : goal.returns-then-w-n-gt32
returns-then-w-n-gt32 c =
    let o = out c.args.buf.now c.args.w in
    let f = c.flush_all_run.ensures in record {
      is = f.is ∙ spared_full o c.args.n c.if-w-n-gt32.true;
      free = omega (arith, f.free, c.requires.n_bound);
      windowed = f.windowed;
    }

pub returns-else-w-n-gt32 : goal.returns-else-w-n-gt32
returns-else-w-n-gt32 c =
    let o = out c.args.buf.now c.args.w in
    let h = c.requires.windowed in
    record { is = spared_free o c.args.n h.roomy.fair c.if-w-n-gt32.false; free = c.if-w-n-gt32.false; windowed = h }
