-- `index_fields_pitch::filters_ok` meets its contract. Assumes nothing.
use Rattle.std.proofs.Common.{◌≡◌, ◌-◌, length, take, drop, pos, w8, arith}
use borrow.Author.Rules.{rules}
use mir.Val.{SFits}
use mir.Facts.{to_z-of_z}
use Rattle.lists.specs.Every.{every}
use Rattle.ranges.specs.InRange.{in_range}
use Rattle.silk.proofs.IndexRows.{subframes_most}
use Rattle.index_decides.proofs.Tested.{filters_tested}
use Rattle.index_fields_pitch.proofs.filters_ok.Goals as goal

pub returns : goal.returns
returns c =
    let m = c.filter_most-most in
    let h : length c.args.ltp ≡ 4 = search rules in
    let g : SFits w8 m.result = search rules in
    let e : c.all_in_range.result ≡ every (in_range (pos 0) m.result) (take (c.args.subframes - 0) (drop 0 c.args.ltp)) =
    rw (to_z-of_z g) at c.all_in_range.ensures in
    rw (to_z-of_z c.ranges.period, e)
    (filters_tested c.args.subframes c.args.ltp c.args.period m.result (omega (arith, h, subframes_most c.requires))
    (rw (to_z-of_z c.ranges.period) at m.ensures))
