-- Either part's steps are those of the whole. Assumes nothing.
use Rattle.std.proofs.Common.{◌≡◌, take, arith, rules}
use lib.Seq.{take_all}
use Rattle.nlsf_stabilize_search.proofs.SearchLaws.{part_near, part_searched}
use Rattle.nlsf_stabilize_search.proofs.place_run.Goals as goal

pub first_smallest-requires : goal.first_smallest-requires
first_smallest-requires c = (search rules, part_near 65536 12 c.args.w.now c.requires.1)

pub returns-then-n-le10 : goal.returns-then-n-le10
returns-then-n-le10 c =
    let found = c.first_smallest in
    part_searched c.args.w.now c.args.n 11 found.result (omega arith) (omega arith) (omega arith) found.ensures

pub returns-else-n-le10 : goal.returns-else-n-le10
returns-else-n-le10 c =
    let found = c.first_smallest-else-n-le10 in
    let e : take 18 c.args.w.now ≡ c.args.w.now = take_all 18 c.args.w.now (omega arith) in
    part_searched c.args.w.now c.args.n 17 found.result (omega arith) (omega arith) (omega arith) (rw e found.ensures)
