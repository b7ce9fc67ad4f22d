-- A cut leaves so much of the range that two turns settle it.
use Rattle.std.proofs.Common.{◌∙◌}
use Rattle.entcode.proofs.ReaderLaws.{settled_cut}
use Rattle.entdec_bytes.proofs.cut_run.Goals as goal

pub returns : goal.returns
returns c =
    let a = c.args in
    c.ec_dec_normalize.ensures ∙ settled_cut a.packet.now a.d a.t a.s c.requires.s_bound.0
