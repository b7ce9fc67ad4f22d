-- Raw bits have no coded part.
use Rattle.std.proofs.Common.{◌∙◌}
use Rattle.entcode.proofs.CoreLaws.{wrote}
use Rattle.entcode.specs.Flat.{out}
use Rattle.entcode.proofs.FlatLaws.{raw_is}
use Rattle.entcode.specs.Models.{raw}
use Rattle.entenc_run.proofs.ec_enc_bits_run.Goals as goal

pub returns : goal.returns
returns c =
    let a = c.args in
    let r = c.requires in
    let o = out a.buf.now a.w in
    wrote o (record { model = raw a.n; value = a.v }) _ r.core r.total_bound
    (record { readable = (r.le_n.0, r.le_n.1); fitting = r.le_n.2 })
    (c.append.ensures.is ∙ raw_is o a.n a.v r.core.above)
