-- Where the rows of a family stand, by the numbers that pick one of them. Single rows have `index_stands` and
-- `pulse_stands`. Assumes nothing.
use Prim.Native.Nat.{ℕ, ◌+◌, ◌-◌, ◌*◌, ◌/◌, ◌^◌, ◌≤◌, ◌<◌}
use mathlib.Core.Path.{◌≡◌, refl}
use mathlib.Core.Bool.{Bool, true, ◌&&◌}
use mathlib.Core.List.{List, flatten}
use native.Mathlib.Omega.{arith}
use borrow.Author.Tests.{eqb-true}
use lib.Dec.{eqb, lit≤}
use lib.ListN.{get_or}
use Rattle.deciding.proofs.Both.{and_both}
use Rattle.lists.proofs.EveryLaws.{every_below, below_at}
use Rattle.sheet.specs.Rows.{index_rows, pulse_rows}
use Rattle.sheet.specs.Inner.{Stands}
use Rattle.sheet.proofs.Places.{starts, sizes, index_stands, pulse_stands}

-- row first + g starts at `at g` and has `of g` entries
abbrev place_ok : ℕ → (ℕ → ℕ) → (ℕ → ℕ) → ℕ → Bool
place_ok first at of g = eqb (get_or starts (first + g) 0) (at g) && eqb (get_or sizes (first + g) 0) (of g)

placed : {l : List ℕ} (first : ℕ) (at of : ℕ → ℕ) (g : ℕ) → place_ok first at of g ≡ true
    → Stands (first + g) l (get_or starts (first + g) 0) (get_or sizes (first + g) 0) → Stands (first + g) l (at g) (of g)
placed first at of g e s =
    let p = and_both _ _ e in
    let a : get_or starts (first + g) 0 ≡ at g = eqb-true _ _ p.0 in
    let n : get_or sizes (first + g) 0 ≡ of g = eqb-true _ _ p.1 in
    rw (a, n) at s

index_family : (first count : ℕ) (at of : ℕ → ℕ) → every_below (place_ok first at of) count ≡ true → 2 ≤ first → first + count ≤ 46
    → (g : ℕ) → g < count → Stands (first + g) (flatten index_rows) (at g) (of g)
index_family first count at of e l m g h =
    placed first at of g (below_at (place_ok first at of) count e g h) (index_stands (first + g) (omega arith) (omega arith))

pulse_family : (first count : ℕ) (at of : ℕ → ℕ) → every_below (place_ok first at of) count ≡ true → 46 ≤ first → first + count ≤ 166
    → (g : ℕ) → g < count → Stands (first + g) (flatten pulse_rows) (at g) (of g)
pulse_family first count at of e l m g h =
    placed first at of g (below_at (place_ok first at of) count e g h) (pulse_stands (first + g) (omega arith) (omega arith))

-- ---- the side indices

pub type_stands : (active : ℕ) → active < 2 → Stands (2 + active) (flatten index_rows) (active * 2) (2 + active * 2)
unfolding starts sizes
type_stands = index_family 2 2 (λ active. active * 2) (λ active. 2 + active * 2) refl (lit≤ tt) (lit≤ tt)

pub gain_stands : (signalType : ℕ) → signalType < 3 → Stands (4 + signalType) (flatten index_rows) (6 + signalType * 8) 8
unfolding starts sizes
gain_stands = index_family 4 3 (λ signalType. 6 + signalType * 8) (λ signalType. 8) refl (lit≤ tt) (lit≤ tt)

pub first_index_stands : (k : ℕ) → k < 4 → Stands (8 + k) (flatten index_rows) (71 + k * 32) 32
unfolding starts sizes
first_index_stands = index_family 8 4 (λ k. 71 + k * 32) (λ k. 32) refl (lit≤ tt) (lit≤ tt)

pub residual_stands : (k : ℕ) → k < 16 → Stands (12 + k) (flatten index_rows) (199 + k * 9) 9
unfolding starts sizes
residual_stands = index_family 12 16 (λ k. 199 + k * 9) (λ k. 9) refl (lit≤ tt) (lit≤ tt)

pub filter_stands : (period : ℕ) → period < 3 → Stands (37 + period) (flatten index_rows) (463 + 8 * 2 ^ period) (8 * 2 ^ period)
unfolding starts sizes
filter_stands = index_family 37 3 (λ period. 463 + 8 * 2 ^ period) (λ period. 8 * 2 ^ period) refl (lit≤ tt) (lit≤ tt)

-- ---- the pulses

pub rate_stands : (k : ℕ) → k < 2 → Stands (46 + k) (flatten pulse_rows) (k * 9) 9
unfolding starts sizes
rate_stands = pulse_family 46 2 (λ k. k * 9) (λ k. 9) refl (lit≤ tt) (lit≤ tt)

pub count_stands : (level : ℕ) → level < 10 → Stands (48 + level) (flatten pulse_rows) (18 + level * 18) 18
unfolding starts sizes
count_stands = pulse_family 48 10 (λ level. 18 + level * 18) (λ level. 18) refl (lit≤ tt) (lit≤ tt)

pub sign_stands : (k : ℕ) → k < 42 → Stands (124 + k) (flatten pulse_rows) (825 + k * 2) 2
unfolding starts sizes
sign_stands = pulse_family 124 42 (λ k. 825 + k * 2) (λ k. 2) refl (lit≤ tt) (lit≤ tt)

-- the split rows of table t: n (n + 1) / 2 - 1 entries stand before that of n pulses
abbrev shell_start : ℕ → ℕ → ℕ
shell_start t g = 215 + t * 152 + ((g + 1) * (g + 2) / 2 - 1)

abbrev shell_ok : ℕ → Bool
shell_ok t = every_below (place_ok (59 + t * 16) (shell_start t) (λ g. g + 2)) 16

all_shells : every_below shell_ok 4 ≡ true
unfolding starts sizes
all_shells = refl

pub shell_stands : (t n : ℕ) → t < 4 → 1 ≤ n → n ≤ 16
    → Stands (58 + t * 16 + n) (flatten pulse_rows) (215 + t * 152 + (n * (n + 1) / 2 - 1)) (n + 1)
shell_stands t n h l m =
    let k : 59 + t * 16 + (n - 1) ≡ 58 + t * 16 + n = omega arith in
    let a : n - 1 + 1 ≡ n = omega arith in
    let b : n - 1 + 2 ≡ n + 1 = omega arith in
    rw (k, a, b) at
    (pulse_family (59 + t * 16) 16 (shell_start t) (λ g. g + 2) (below_at shell_ok 4 all_shells t h) (omega arith) (omega arith) (n - 1) (omega arith))
