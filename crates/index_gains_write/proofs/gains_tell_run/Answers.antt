-- `index_gains_write::gains_tell_run` meets its contract: the first gain, then the others. Assumes nothing.
use Rattle.std.proofs.Common.{◌≡◌, length, arith}
use borrow.Author.Rules.{rules}
use Rattle.tree.proofs.Says.{says_means}
use Rattle.tree.proofs.Told.{told_then}
use Rattle.silk.specs.IndexSyntax.{gains}
use Rattle.silk.proofs.IndexSays.{first_says}
use Rattle.index_gains_write.proofs.gains_tell_run.Goals as goal

pub returns : goal.returns
unfolding gains
returns c =
    let p = c.requires.subframes in
    let g : length c.args.x.gains ≡ 4 = search rules in
    told_then _ (says_means (first_says c.args.mode c.args.signal c.args.x p.1 (omega (arith, g)) p.2.first))
    c.first_gain_tell-f.ensures c.more_gains_tell.ensures
