-- Inverse tables (RFC 6716, section 4.1.3.3): entry k is 2^scale less the cumulative frequency fh of symbol k. What
-- document 01 asks of a table, and which symbols can be written with it. Assumes nothing.
use Rattle.std.specs.Prelude.{ℕ, zero, suc, ◌-◌, ◌^◌, ◌≤◌, ◌<◌, ◌≡◌, List, length, get_or}

-- scale 1 to 8, 1 to 256 entries, first entry below 2^scale, never rising, last entry 0
pub record Icdf (scale : ℕ) (t : List ℕ) : Type 0 where
  pub least : 1 ≤ scale
  pub most : scale ≤ 8
  pub some : 1 ≤ length t
  pub few : length t ≤ 256
  pub first : get_or t 0 0 < 2 ^ scale
  pub falls : (k : ℕ) → suc k < length t → get_or t (suc k) 0 ≤ get_or t k 0
  pub ends : get_or t (length t - 1) 0 ≡ 0

-- the entry before place k; before the first stands 2^scale
abbrev pub before : ℕ → List ℕ → ℕ → ℕ
before scale t zero = 2 ^ scale
before scale t (suc k) = get_or t k 0

-- a writable symbol: an index of the table with a probability above 0
pub record Writable (scale : ℕ) (t : List ℕ) (k : ℕ) : Type 0 where
  pub inside : k < length t
  pub chance : get_or t k 0 < before scale t k
