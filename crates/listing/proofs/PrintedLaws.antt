-- Laws of `specs/Printed`. Assumes nothing.
use Prim.Native.Nat.{ℕ, ◌+◌, ◌≤◌}
use mathlib.Core.Path.{◌≡◌, sym, ap, ap₂, ◌∙◌}
use mathlib.Core.List.{List, ◌++◌}
use native.Mathlib.Omega.{arith}
use lib.ListN.{length, take, drop, length-append}
use lib.Seq.{sets-eq, length-take-le}
use Rattle.numerals.specs.Inner.{Put}
use Rattle.listing.specs.Printed.{Printed, printed}

-- what is put at the start of a buffer that has room for it
pub printed_put : {n k : ℕ} {l t m : List ℕ} → Put n l 0 t m k → n ≤ length l → record { buffer = m; count = k } ≡ printed t l
unfolding printed
printed_put {n} {k} {l} {t} {m} p h =
    let e : 0 + length t ≡ length t = omega arith in
    let f : m ≡ t ++ drop (length t) l = p.is ∙ sets-eq t l 0 (omega (arith, p.most)) ∙ ap (λ (i : ℕ). t ++ drop i l) e in
    ap₂ (λ (b : List ℕ) (c : ℕ). record { buffer = b; count = c }) f (p.behind ∙ e)

-- a text that was printed lies in the buffer
pub printed_within : (b t l : List ℕ) (k : ℕ) → record { buffer = b; count = k } ≡ printed t l → k ≤ length b
unfolding printed
printed_within b t l k e =
    omega (arith, ap (λ (p : Printed). p.count) e, ap (λ (p : Printed). length p.buffer) e, length-append t (drop (length t) l))

-- the part of the buffer that has it is as long
pub printed_part : (b t l : List ℕ) (k : ℕ) → record { buffer = b; count = k } ≡ printed t l → k ≡ length (take k b)
printed_part b t l k e = sym (length-take-le k b (printed_within b t l k e))
