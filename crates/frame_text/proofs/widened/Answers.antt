-- One number more. Assumes nothing.
use Rattle.std.proofs.Common.{◌≡◌, ◌++◌, ◌∷◌, ◌<◌, [], List, ℤ, pos, sym, ap₂, ◌∙◌, add-one, arith, rules, length}
use lib.ListN.{length-set}
use lib.Seq.{take_all, take-suc, take-suc-set}
use Rattle.frame_text.proofs.EightBits.{widened}
use Rattle.frame_text.proofs.widened.Goals as goal

pub loop-i-preserved : goal.loop-i-preserved
loop-i-preserved g c =
    let i = c.loop-i.i in
    let xs = c.args.xs in
    let before = c.loop-i.invariant in
    let l : length xs ≡ g.row.N = search rules in
    let inside : i < length xs = omega arith in
    let room : i < length c.loop-i.wide = omega (arith, before.0) in
    let x = widened c.from.type_inv c.from.ensures (search rules) in (
      length-set c.loop-i.wide i _ ∙ before.0,
      rw add-one
          (take-suc-set c.loop-i.wide i _ room
          ∙ ap₂ (λ (a : List ℤ) (y : ℤ). a ++ (y ∷ [])) before.1 x
          ∙ sym (take-suc xs i (pos 0) inside)),
    )

pub returns : goal.returns
returns g c =
    let i = c.loop-i.i in
    let xs = c.args.xs in
    let l : length xs ≡ g.row.N = search rules in
    let h = c.loop-i.invariant in
    sym (take_all i c.loop-i.wide (omega (arith, h.0))) ∙ h.1 ∙ take_all i xs (omega arith)
