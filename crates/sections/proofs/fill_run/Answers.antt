-- One value more. Assumes nothing.
use Rattle.std.proofs.Common.{◌∷◌, ◌++◌, ℤ, List, [], refl, ap₂, ◌∙◌, add-one, arith}
use borrow.Author.Rules.{sfits_of}
use lib.Seq.{take-suc-set}
use mir.Syntax.{w16}
use mir.Facts.{to_z-of_z}
use Rattle.sections.specs.Values.{values_at}
use Rattle.sections.proofs.ValuesLaws.{values_more}
use Rattle.sections.proofs.fill_run.Goals as goal

pub loop-i-init : goal.loop-i-init
unfolding values_at
loop-i-init c = refl

pub loop-i-preserved : goal.loop-i-preserved
loop-i-preserved c =
    let i = c.loop-i.i in
    let v = c.value_at_run in
    let x = to_z-of_z {w = w16} (sfits_of v.type_inv) ∙ v.ensures in
    rw add-one
    (take-suc-set c.loop-i.values i _ (omega arith)
    ∙ ap₂ (λ (l : List ℤ) (y : ℤ). l ++ (y ∷ [])) c.loop-i.invariant x
    ∙ values_more c.args.s.now c.args.at i)
