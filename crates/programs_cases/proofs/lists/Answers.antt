-- What is printed lies in the buffer.
use Rattle.listing.proofs.PrintedLaws.{printed_within, printed_part}
use Rattle.programs_cases.proofs.lists.Goals as goal

pub slice_bounds-out-end : goal.slice_bounds-out-end
slice_bounds-out-end c = printed_within _ _ _ _ c.lister_text-n.ensures

pub slice_bounds-eq-end : goal.slice_bounds-eq-end
slice_bounds-eq-end c = printed_part _ _ _ _ c.lister_text-n.ensures
