-- The search has come to k, and low and top are the ends of its part.
use Rattle.std.proofs.Common.{◌-◌, length}
use Rattle.entdec_search.proofs.Coming.{Come}
use Rattle.entdec_search.proofs.search_part.Given as goal

abbrev pub invariant-loop-low : goal.invariant-loop-low
invariant-loop-low l = Come l.table l.unit l.v l.rng l.k l.top l.low

abbrev pub decreases-loop-low : goal.decreases-loop-low
decreases-loop-low l = length l.table - l.k
