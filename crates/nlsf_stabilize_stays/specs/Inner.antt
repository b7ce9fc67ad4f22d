-- The test whether a vector stays. Assumes nothing.
use Rattle.std.specs.Prelude.{Bool, ◌&&◌, List, ℤ, length}
use Rattle.spectrum.specs.Distances.{keeps}
use Rattle.spectrum.specs.Gaps.{good_gaps}

-- the gaps meet the rule, and the vector keeps every one
abbrev pub stays : List ℤ → List ℤ → Bool
stays g v = good_gaps (length v) g && keeps g v
