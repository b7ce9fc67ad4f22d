-- The lines that an accepted decoding leaves do not touch.
use Rattle.std.proofs.Common.{rules, arith, refl}
use Rattle.spectrum.proofs.Always.{decode_apart, apart_less}
use Rattle.filter_example.proofs.decoded.Goals as goal

pub sharpest-requires : goal.sharpest-requires
sharpest-requires c =
    apart_less (omega arith) (omega arith) (omega arith) ((decode_apart _ _ 16 _ (search rules) c.silk_NLSF_decode-decoding.ensures (search rules)).1 refl).1
