-- Lines that keep gaps of 1 do not touch.
use Rattle.std.proofs.Common.{ℕ, suc, ◌<◌, List, arith, refl, sym, ap, ◌∙◌}
use lib.IntN.{ℤ, pos}
use lib.Signed.{le_z, ◌≤ℤ◌}
use lib.ListN.{replicate}
use Rattle.ints.proofs.Order.{le_z_true, parts_le}
use Rattle.lists.proofs.EveryLaws.{every_at}
use Rattle.spectrum.proofs.Always.{stabilise_takes, stabilise_always, gaps_apart}
use Rattle.spectrum.specs.Calls.{Called}
use Rattle.spectrum.specs.Values.{at}
use Rattle.filter_example.proofs.moved_apart.Goals as goal

abbrev ones : List ℤ
ones = replicate 17 (pos 1)

one : (i : ℕ) → i < 17 → pos 1 ≤ℤ at ones i
one i h = parts_le (pos 1) (at ones i) (le_z_true (pos 1) (at ones i) (every_at (le_z (pos 1)) ones (pos 0) refl i h))

pub sharpest-requires : goal.sharpest-requires
sharpest-requires c =
    let call = c.silk_NLSF_stabilize-moving in
    let v = c.args.lines.now in
    let s = stabilise_always v ones _ call.ensures c.if-moving-eq0.true in
    let t = (stabilise_takes v ones).1 (ap (λ (r : Called). r.answer.refusal) (sym call.ensures) ∙ c.if-moving-eq0.true) in
    gaps_apart 1 1 1 ones call.new.vector (one 0 (omega arith))
    (λ i h. one (suc i) (omega (arith, s.long, t.few)))
    (λ i h. one (suc i) (omega (arith, s.long, t.few)))
    s.kept
