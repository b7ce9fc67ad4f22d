-- Where the writer's bytes go: coded bytes fill the buffer from its start, raw bytes from its end. A byte that finds
-- no room is dropped, and the error stays (document 01: the crate's sticky error -1, here 1). Assumes nothing.
use Rattle.std.specs.Prelude.{ℕ, suc, ◌+◌, ◌-◌, Bool, cond, List, [], ◌∷◌, ltb, length, set}

pub record Room : Type 0 where
  pub buf : List ℕ
  pub offs : ℕ
  pub end : ℕ
  pub err : ℕ

abbrev pub free : Room → Bool
free r = ltb (r.offs + r.end) (length r.buf)

abbrev pub failed : Room → Room
failed r = record { buf = r.buf; offs = r.offs; end = r.end; err = 1 }

abbrev pub placed : Room → ℕ → Room
placed r b = record { buf = set r.buf r.offs b; offs = suc r.offs; end = r.end; err = r.err }

abbrev pub put : Room → ℕ → Room
put r b = cond (free r) (placed r b) (failed r)

abbrev pub puts : Room → List ℕ → Room
puts r [] = r
puts r (b ∷ bs) = puts (put r b) bs

abbrev pub placed_back : Room → ℕ → Room
placed_back r b = record { buf = set r.buf (length r.buf - suc r.end) b; offs = r.offs; end = suc r.end; err = r.err }

abbrev pub back : Room → ℕ → Room
back r b = cond (free r) (placed_back r b) (failed r)
