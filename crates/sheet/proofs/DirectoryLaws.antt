-- Laws of `specs/Directory`. Assumes nothing.
use Prim.Native.Nat.{ℕ}

abbrev pub row_count : ℕ
row_count = 166
