-- `put_natural` meets its contract: the number falls at each call. Assumes nothing.
use Rattle.std.proofs.Common.{ℕ, ◌+◌, ◌/◌, ◌%◌, ◌<◌, ◌≤◌, ◌≡◌, [], ◌∷◌, sym, ap, ◌∙◌, arith, length, length-append}
use Rattle.numerals.specs.Decimal.{digit, natural}
use Rattle.numerals.proofs.DecimalLaws.{natural_small, natural_next}
use Rattle.numerals.proofs.Put.{put_then, put_as}
use Rattle.numerals.proofs.+put_natural.Goals as goal

alone : (n : ℕ) → n < 10 → (48 + n % 10) ∷ [] ≡ natural n
alone n h = let e : n % 10 ≡ n = omega arith in ap (λ (d : ℕ). (48 + d) ∷ []) e ∙ sym (natural_small n h)

one_more : (n : ℕ) → 10 ≤ n → length (natural n) ≡ length (natural (n / 10)) + 1
one_more n h = ap length (natural_next n h) ∙ length-append (natural (n / 10)) (digit (n % 10) ∷ [])

pub put_byte_run-requires : goal.put_byte_run-requires
put_byte_run-requires t c = omega (arith, ap length (alone c.args.n c.if-n-lt10.true))

pub returns-then-n-lt10 : goal.returns-then-n-lt10
returns-then-n-lt10 t c =
    let e = alone c.args.n c.if-n-lt10.true in
    put_as c.put_byte_run.ensures e (omega (arith, ap length e))

pub put_natural-place-requires : goal.put_natural-place-requires
put_natural-place-requires t c = (omega arith, omega (arith, one_more c.args.n c.if-n-lt10.false))

pub put_byte_run-requires-else-n-lt10 : goal.put_byte_run-requires-else-n-lt10
put_byte_run-requires-else-n-lt10 t c = omega (arith, one_more c.args.n c.if-n-lt10.false)

pub returns-else-n-lt10 : goal.returns-else-n-lt10
returns-else-n-lt10 t c =
    let h = c.if-n-lt10.false in
    put_as (put_then c.put_natural-place.ensures c.put_byte_run-else-n-lt10.ensures) (sym (natural_next c.args.n h))
    (omega (arith, one_more c.args.n h))
