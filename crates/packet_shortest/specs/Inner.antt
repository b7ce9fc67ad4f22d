-- What is told of the bytes of written lengths: no public contract speaks of it. Assumes nothing.
use Rattle.std.specs.Prelude.{ℕ, ◌+◌, ◌≤◌, ◌<◌, ◌≡◌, Option, Some, None, List, take}
use Rattle.framing.specs.Lengths.{length_codes, total}
use Rattle.framing.specs.Writing.{bare as bareOf}

-- the written lengths of the first n sizes
abbrev pub codes_of : List ℕ → ℕ → List ℕ
codes_of ns n = length_codes (take n ns)

-- bytes of the written lengths, exactly, or 50,000 where they are 16,384 at least
pub record Width (ns : List ℕ) (w : ℕ) : Type 0 where
  pub most : w ≤ 50000
  pub exact : w ≤ 40000 → w + total ns ≡ bareOf ns
  pub more : 40000 < w → 16384 ≤ bareOf ns

-- the width that an answer tells; None tells of 16,384 bytes at least
abbrev pub told : Option ℕ → ℕ
told (Some w) = w
told None = 50000
