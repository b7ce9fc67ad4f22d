-- What is written lies in the buffer.
use Rattle.listing.proofs.PrintedLaws.{printed_within, printed_part}
use Rattle.nlsf_stabiliser.proofs.main.Goals as goal

pub slice_bounds-out-end : goal.slice_bounds-out-end
slice_bounds-out-end c = printed_within _ _ _ _ c.stabiliser_text-k.ensures

pub slice_bounds-write_all-end : goal.slice_bounds-write_all-end
slice_bounds-write_all-end c = printed_part _ _ _ _ c.stabiliser_text-k.ensures
