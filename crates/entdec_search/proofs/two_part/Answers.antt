-- One test tells the two parts.
use Rattle.entdec_search.proofs.TwoEntries.{two_entries}
use Rattle.entdec_search.proofs.two_part.Goals as goal

pub returns : goal.returns
returns c =
    let a = c.args in
    let r = c.requires in
    rw (c.pick-symbol.ensures, c.pick-low.ensures, c.pick-top.ensures, c.from.ensures)
    (two_entries a.scale a.rng a.unit a.v a.table.now r.icdf.0 r.icdf.1)
