-- `tignarops::tg_decode_indices` meets its contract: it is the call's. Assumes nothing.
use borrow.Author.Rules.{rules}
use mir.Facts.{to_z-of_z}
use Rattle.tignarops.proofs.tg_decode_indices.Statement.{statement}
use Rattle.tignarops.proofs.tg_decode_indices.Tie as tie

returns : tie.Need-returns
returns c = rw (to_z-of_z c.ranges.prevlag) at c.silk_decode_indices.ensures

pub tg_decode_indices_spec : {M : Type 1} → statement M
tg_decode_indices_spec = tie.close (tie.spec (λ c κs. search rules) returns)
