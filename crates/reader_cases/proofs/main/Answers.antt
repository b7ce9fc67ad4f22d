-- As much is handed on as was read. By named lemmas, since a tactic would count the buffer's bytes one by one.
use Rattle.std.proofs.Common.{ℕ, sym, length-take-le}
use lib.ListN.{length-replicate}
use Rattle.reader_cases.proofs.main.Goals as goal

pub slice_bounds-read_full-end : goal.slice_bounds-read_full-end
slice_bounds-read_full-end c = sym (length-replicate {A = ℕ} 262144 0)

pub slice_bounds-buf-end : goal.slice_bounds-buf-end
slice_bounds-buf-end c = c.in_ok-n.ensures.bound

pub slice_bounds-replay-end : goal.slice_bounds-replay-end
slice_bounds-replay-end c = sym (length-take-le c.in_ok-n.n c.read_full.new.buf c.in_ok-n.ensures.bound)
