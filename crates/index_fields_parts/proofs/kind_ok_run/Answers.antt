-- `index_fields_parts::kind_ok_run` meets its contract. Assumes nothing.
use Rattle.std.proofs.Common.{◌≡◌, ◌*◌, pos, to_z, w8, arith}
use borrow.Author.Rules.{rules}
use mir.Val.{SFits}
use mir.Facts.{to_z-of_z, to_z_pos}
use Rattle.index_decides.proofs.Tested.{kind_tested}
use Rattle.index_fields_parts.proofs.kind_ok_run.Goals as goal

pub returns : goal.returns
returns c =
    let a = c.args.active in
    let s : SFits w8 c.args.x.signal = search rules in
    let o : SFits w8 c.args.x.offset = search rules in
    let l : to_z w8 a ≡ pos a = to_z_pos w8 {n = a} (omega arith) in
    let m : to_z w8 (a * 2) ≡ pos (a * 2) = to_z_pos w8 {n = a * 2} (omega arith) in
    rw (to_z-of_z s, to_z-of_z o, l, m) (kind_tested a c.args.x c.requires)
