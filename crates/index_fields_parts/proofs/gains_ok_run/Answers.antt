-- `index_fields_parts::gains_ok_run` meets its contract. Assumes nothing.
use Rattle.std.proofs.Common.{◌≡◌, ◌-◌, length, get_or, take, drop, pos, w8, arith}
use borrow.Author.Rules.{rules}
use mir.Val.{SFits}
use mir.Facts.{to_z-of_z}
use Rattle.lists.specs.Every.{every}
use Rattle.ranges.specs.InRange.{in_range}
use Rattle.silk.proofs.IndexRows.{subframes_least, subframes_most}
use Rattle.index_decides.proofs.Tested.{gains_tested}
use Rattle.index_fields_parts.proofs.gains_ok_run.Goals as goal

pub returns : goal.returns
returns c =
    let l = c.args.x.gains in
    let m = c.first_most-most in
    let h : length l ≡ 4 = search rules in
    let f : SFits w8 (get_or l 0 (pos 0)) = search rules in
    let g : SFits w8 m.result = search rules in
    let e : c.all_in_range.result ≡ every (in_range (pos 0) (pos 40)) (take (c.args.subframes - 1) (drop 1 l)) = c.all_in_range.ensures in
    rw (to_z-of_z f, to_z-of_z g, m.ensures, e) (gains_tested c.args.mode c.args.subframes c.args.x c.requires h)
