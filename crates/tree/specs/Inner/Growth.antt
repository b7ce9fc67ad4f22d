-- How far reading or writing along a tree can take a total; no public contract says it. Assumes nothing.
use Rattle.std.specs.Prelude.{ℕ, ◌*◌}

-- n symbols by rows: 16 bits each
abbrev pub of_symbols : ℕ → ℕ
of_symbols n = 16 * n
