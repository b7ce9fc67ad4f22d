-- What the coded parts of a list of symbols amount to, without buffer and carry: an interval of numbers to the base 256 that every symbol narrows.
-- And what the raw parts amount to: one number. Part 4 of the argument. Assumes nothing.
use Prim.Native.Nat.{ℕ, suc, ◌+◌, ◌-◌, ◌*◌, ◌^◌, ◌≤◌, ◌<◌}
use mathlib.Core.Path.{◌≡◌, refl}
use mathlib.Core.Bool.{Bool, true, false, cond}
use mathlib.Core.List.{List, [], ◌∷◌}
use native.Mathlib.Omega.{arith}
use borrow.Author.Tests.{leb-true, leb-false}
use lib.Dec.{leb}
use Rattle.entcode.specs.Models.{Sym, coded, lo, hi, all, raw_n, raw_v, Allowed}
use Rattle.entcode.specs.Cuts.{upper, lower}
use Rattle.entcode.proofs.CutLaws.{Proper, cut_ok}
use Rattle.entcode.specs.Inner.Reading.{CutOk}
use Rattle.entcode.proofs.ModelLaws.{proper}
use Rattle.roundtrip.specs.Statement.{AllAllowed}

-- ---- an interval: the numbers from low on, size of them, of so many digits and 31 bits
pub record Interval : Type 0 where
  pub digits : ℕ
  pub low : ℕ
  pub size : ℕ

-- a digit more
abbrev pub shift_i : Interval → Interval
shift_i a = record { digits = suc a.digits; low = 256 * a.low; size = 256 * a.size }

-- while there are at most 2^23 of them
abbrev pub norm_i : Interval → Interval
norm_i a = cond (leb a.size (2 ^ 23)) (shift_i a) a

-- the part from t down to s, counted from the top
abbrev pub cut_i : Interval → ℕ → ℕ → Interval
cut_i a t s = record { digits = a.digits; low = a.low + (a.size - t); size = t - s }

-- the piece [fl, fh) of ft
abbrev pub code_i : Interval → ℕ → ℕ → ℕ → Interval
code_i a fl fh ft = norm_i (norm_i (cut_i a (upper a.size fl ft) (lower a.size fh ft)))

-- a symbol, and a list of them
abbrev pub sym_i : Interval → Sym → Interval
sym_i a s = code_i a (lo s.model (coded s.model s.value)) (hi s.model (coded s.model s.value)) (all s.model)

abbrev pub run_i : Interval → List Sym → Interval
run_i a [] = a
run_i a (s ∷ ss) = run_i (sym_i a s) ss

-- before the first symbol
abbrev pub open_i : Interval
open_i = record { digits = 0; low = 0; size = 2 ^ 31 }

-- ---- the raw parts of a list, the first in the lowest bits, X above them
abbrev pub raw_number : List Sym → ℕ → ℕ
raw_number [] X = X
raw_number (s ∷ ss) X = raw_v s.model s.value + 2 ^ raw_n s.model * raw_number ss X

-- ---- an interval stays above 2^23

norm_twice : (t u : Bool) (a : Interval) → leb a.size (2 ^ 23) ≡ t → leb (cond t (shift_i a) a).size (2 ^ 23) ≡ u → 256 ≤ a.size
    → 2 ^ 23 < (cond u (shift_i (cond t (shift_i a) a)) (cond t (shift_i a) a)).size
norm_twice true true a e f h = omega arith
norm_twice true false a e f h = leb-false _ (2 ^ 23) f
norm_twice false true a e f h = absurd (omega (arith, leb-true a.size (2 ^ 23) f, leb-false a.size (2 ^ 23) e))
norm_twice false false a e f h = leb-false _ (2 ^ 23) f

code_size : (a : Interval) (fl fh ft : ℕ) → 2 ^ 23 < a.size → Proper fl fh ft → 2 ^ 23 < (code_i a fl fh ft).size
code_size a fl fh ft h p =
    let c : CutOk a.size (upper a.size fl ft) (lower a.size fh ft) = cut_ok a.size fl fh ft h p in
    norm_twice _ _ (cut_i a (upper a.size fl ft) (lower a.size fh ft)) refl refl (omega (arith, c.some))

pub sym_size : (a : Interval) (s : Sym) → Allowed s.model s.value → 2 ^ 23 < a.size → 2 ^ 23 < (sym_i a s).size
sym_size a s ok h = code_size a _ _ _ h (proper s.model s.value ok)

pub run_size : (ss : List Sym) (a : Interval) → AllAllowed ss → 2 ^ 23 < a.size → 2 ^ 23 < (run_i a ss).size
run_size [] a ok h = h
run_size (s ∷ ss) a ok h = run_size ss (sym_i a s) ok.1 (sym_size a s ok.0 h)
