-- One length more. Assumes nothing.
use Rattle.std.proofs.Common.{◌≡◌, ◌+◌, ◌++◌, [], refl, rules, arith, ap, length, get_or}
use lib.ListN.{length-append}
use lib.Seq.{take-length}
use Rattle.framing.specs.Lengths.{length_code, length_codes}
use Rattle.numerals.proofs.Put.{put_none, put_then, put_as}
use Rattle.packet_shortest.specs.Inner.{codes_of}
use Rattle.packet_shortest.proofs.CodeLaws.{codes_more}
use Rattle.packet_pieces.proofs.PieceLaws.{codes_less}
use Rattle.packet_pieces.proofs.put_lengths_run.Goals as goal

none : [] ≡ length_codes []
unfolding length_codes
none = refl

pub loop-size-init : goal.loop-size-init
loop-size-init c = (search rules, put_as (put_none _ _) none (omega arith))

pub put_length_run-place-requires : goal.put_length_run-place-requires
put_length_run-place-requires c =
    let ns = c.args.sizes.now in
    let k = c.loop-size.size-index in
    rw c.from.ensures (
      c.requires.0 k,
      omega (
        arith,
        c.loop-size.invariant.1.behind,
        ap length (codes_more ns k (omega arith)),
        length-append (codes_of ns k) (length_code (get_or ns k 0)),
        codes_less ns (k + 1) (length ns) (omega arith),
        ap (λ l. length (length_codes l)) (take-length ns),
      ),
    )

pub loop-size-preserved : goal.loop-size-preserved
loop-size-preserved c =
    let ns = c.args.sizes.now in
    let k = c.loop-size.size-index in
    let e : codes_of ns k ++ length_code (get_or ns k 0) ≡ codes_of ns (k + 1) = codes_more ns k (omega arith) in (
      search rules,
      put_as (put_then c.loop-size.invariant.1 (rw c.from.ensures at c.put_length_run-place.ensures)) e
          (omega (arith, ap length e, length-append (codes_of ns k) (length_code (get_or ns k 0)))),
    )
