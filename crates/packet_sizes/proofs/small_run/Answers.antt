-- `small_run` meets its contract. Assumes nothing.
use Rattle.std.proofs.Common.{◌∙◌, rules}
use Rattle.std.proofs.lemmas.Iterator.{YieldsList-from_slice}
use Rattle.std.proofs.lemmas.Iterator.Search.{all_from_yields_List}
use borrow.Author.Tests.{tests}
use Rattle.framing.specs.Rules.{fits_frame}
use Rattle.packet_sizes.proofs.SizeLaws.{all_every}
use Rattle.packet_sizes.proofs.small_run.Goals as goal

pub returns : goal.returns
returns c =
    all_from_yields_List fits_frame _ _ _ c.all.ensures.ran (YieldsList-from_slice c.args.sizes.now cc) (λ x b q k. search (rules, tests))
    ∙ all_every fits_frame c.args.sizes.now
