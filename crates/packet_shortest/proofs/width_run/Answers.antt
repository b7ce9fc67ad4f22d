-- `width_run` meets its contract. Assumes nothing.
use Rattle.std.proofs.Common.{◌≡◌, ℕ, ◌-◌, ◌<◌, [], length, get_or, take, refl, ap, ◌∙◌, arith}
use Rattle.std.proofs.lemmas.List.{length-take}
use Rattle.std.proofs.lemmas.Grind.{common_steps}
use Rattle.framing.specs.Lengths.{length_code, length_codes}
use Rattle.packet_shortest.proofs.CodeLaws.{width_more}
use Rattle.packet_shortest.proofs.width_run.Goals as goal

none : 0 ≡ length (length_codes [])
none = unfold length_codes in refl

pub loop-size-init : goal.loop-size-init
loop-size-init c = (none, omega arith)

pub loop-size-preserved : goal.loop-size-preserved
loop-size-preserved c =
    let s = c.args.sizes.now in
    let n = length s - 1 in
    let i = c.loop-size.size-index in
    let h : i < length s = omega (arith, length-take n s) in
    let g : get_or (take n s) i 0 ≡ get_or s i 0 = grind (arith, common_steps) in
    let e = width_more s i c.bytes_of-width.result h (c.bytes_of-width.ensures.0 ∙ ap (λ (x : ℕ). length (length_code x)) g) in
    (omega (arith, c.loop-size.invariant.0, e), omega (arith, c.bytes_of-width.ensures.1))
