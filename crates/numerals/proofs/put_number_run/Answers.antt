-- A minus sign and at most five digits. Assumes nothing.
use Rattle.std.proofs.Common.{ℕ, ◌≤◌, ◌∷◌, length, ap, ◌∙◌, arith}
use mir.Facts.{to_z-of_z}
use Rattle.numerals.specs.Decimal.{natural}
use Rattle.numerals.proofs.DecimalLaws.{natural_length, decimal_minus, decimal_plain}
use Rattle.numerals.proofs.Put.{put_then, put_as}
use Rattle.numerals.proofs.put_number_run.Goals as goal

five : (n : ℕ) → n ≤ 32768 → length (natural n) ≤ 5
five n h = natural_length 4 n (omega arith)

pub put_natural-requires : goal.put_natural-requires
put_natural-requires c = omega (arith, five _ c.unsigned_abs-n.ensures.bound)

pub returns-then-x-lt0 : goal.returns-then-x-lt0
returns-then-x-lt0 c =
    let f = to_z-of_z c.ranges.x in
    let n = c.unsigned_abs-n.ensures in
    put_as (put_then c.put_byte_run-place.ensures c.put_natural.ensures)
    (ap (λ m. 45 ∷ natural m) (rw f at n.value) ∙ decimal_minus _ (rw f at c.if-x-lt0.true))
    (omega (arith, five _ n.bound))

pub put_natural-requires-else-x-lt0 : goal.put_natural-requires-else-x-lt0
put_natural-requires-else-x-lt0 c = omega (arith, five _ c.unsigned_abs-n.ensures.bound)

pub returns-else-x-lt0 : goal.returns-else-x-lt0
returns-else-x-lt0 c =
    let f = to_z-of_z c.ranges.x in
    let n = c.unsigned_abs-n.ensures in
    put_as c.put_natural-else-x-lt0.ensures (ap natural (rw f at n.value) ∙ decimal_plain _ (rw f at c.if-x-lt0.false)) (omega (arith, five _ n.bound))
