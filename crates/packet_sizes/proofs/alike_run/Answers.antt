-- `alike_run` meets its contract. Assumes nothing.
use Rattle.std.proofs.Common.{◌∙◌, eqb, rules}
use Rattle.std.proofs.lemmas.Iterator.{YieldsList-from_slice}
use Rattle.std.proofs.lemmas.Iterator.Search.{all_from_yields_List}
use borrow.Author.Tests.{tests}
use Rattle.packet_sizes.proofs.SizeLaws.{all_every, alike_rest, alike_none}
use Rattle.packet_sizes.proofs.alike_run.Goals as goal

pub returns-in-Some : goal.returns-in-Some
returns-in-Some c =
    let a = c.in-Some.first.now in
    let r = c.in-Some.rest.now in
    all_from_yields_List (λ b. eqb b a) _ _ _ c.all.ensures.ran (YieldsList-from_slice r cc) (λ x b q k. search (rules, tests))
    ∙ all_every (λ b. eqb b a) r ∙ alike_rest c.args.sizes.now a r c.in-Some.ensures.cases.0

pub returns-in-None : goal.returns-in-None
returns-in-None c = alike_none c.args.sizes.now c.in-None.ensures.cases
