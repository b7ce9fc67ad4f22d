-- `toward_zero` meets its contract. Assumes nothing.
use mir.Facts.{to_z-of_z}
use Rattle.nlsf_places.specs.Inner.{toward_zero}
use Rattle.nlsf_places.proofs.toward_zero.Statement.{statement}
use Rattle.nlsf_places.proofs.toward_zero.Tie as tie

returns : tie.Need-returns-then-x-gt0
unfolding toward_zero
returns c = rw (rw (to_z-of_z c.ranges.x) at c.if-x-gt0.true)

returns_2 : tie.Need-returns-then-x-lt0
unfolding toward_zero
returns_2 c =
    let f = c.ranges.x in
    rw (rw (to_z-of_z f) at c.if-x-gt0.false, rw (to_z-of_z f) at c.if-x-lt0.true)

returns_3 : tie.Need-returns
unfolding toward_zero
returns_3 c =
    let f = c.ranges.x in
    rw (rw (to_z-of_z f) at c.if-x-gt0.false, rw (to_z-of_z f) at c.if-x-lt0.false)

pub toward_zero_spec : {M : Type 1} → statement M
toward_zero_spec = tie.close (tie.spec returns returns_2 returns_3)
