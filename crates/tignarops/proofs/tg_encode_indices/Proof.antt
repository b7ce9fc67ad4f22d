-- `tignarops::tg_encode_indices` meets its contract: it is the call's. Assumes nothing.
use borrow.Author.Rules.{rules}
use mir.Facts.{to_z-of_z}
use Rattle.tignarops.proofs.tg_encode_indices.Statement.{statement}
use Rattle.tignarops.proofs.tg_encode_indices.Tie as tie

returns : tie.Need-returns
returns c =
    let z = c.before.before.before.before.before in rw (to_z-of_z z.ranges.prevlag) at c.silk_encode_indices.ensures

pub tg_encode_indices_spec : {M : Type 1} → statement M
tg_encode_indices_spec = tie.close (tie.spec (λ c κs. search rules) (λ c. search rules) returns)
