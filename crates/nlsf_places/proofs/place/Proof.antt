-- `place` meets its contract. Assumes nothing.
use Prim.Native.Nat.{ℕ, ◌*◌}
use mathlib.Core.Path.{◌≡◌, ◌∙◌}
use mathlib.Core.Bool.{false}
use native.Mathlib.Omega.{arith}
use borrow.Author.Rules.{rules, sfits_of}
use lib.IntN.{ℤ, pos, ◌+ℤ◌, ◌*ℤ◌}
use lib.Signed.{lt_z, quot_z}
use mir.Syntax.{w16, w32}
use mir.Val.{SFits, to_z, of_z}
use mir.Facts.{to_z-of_z}
use Rattle.ints.proofs.Order.{parts_alone, lt_z_false}
use Rattle.ints.proofs.Widths.{parts_fit}
use Rattle.spectrum.proofs.Extremes.{held_hi, held_lo, held_own}
use Rattle.spectrum.specs.Places.{placed}
use Rattle.nlsf_places.proofs.place.Statement.{statement}
use Rattle.nlsf_places.proofs.place.Tie as tie

-- before it is held
abbrev number : ℕ → ℕ → ℤ → ℤ
number value weight r = quot_z (r *ℤ pos 16384) (pos weight) +ℤ pos (value * 128)

-- what the machine holds
reads : (c : tie.After-moved-z)
    → to_z w32 (of_z w32 c.moved-z.result) ≡ number c.args.value c.args.weight c.args.r
reads c = to_z-of_z {w = w32} (sfits_of c.moved-z.type_inv) ∙ (rw (to_z-of_z c.ranges.r) at c.moved-z.ensures)

inside : (z : ℤ) → lt_z (pos 32767) z ≡ false → lt_z z (pos 0) ≡ false → SFits w16 z
inside z e f =
    parts_fit z (omega (arith, parts_alone z, lt_z_false (pos 32767) z e)) (omega (arith, parts_alone z, lt_z_false z (pos 0) f))

returns : tie.Need-returns-then-z-gt32767
unfolding placed
returns c =
    let a = c.args in
    held_hi (pos 0) (pos 32767) (number a.value a.weight a.r) (rw (reads c.before) at c.if-z-gt32767.true)

returns_2 : tie.Need-returns-then-z-lt0
unfolding placed
returns_2 c =
    let a = c.args in
    let e = reads c.before.before in
    held_lo (pos 0) (pos 32767) (number a.value a.weight a.r) (rw e at c.if-z-gt32767.false) (rw e at c.if-z-lt0.true)

cast_result : tie.Need-overflow_cast-result
cast_result c =
    let a = c.args in
    let e = reads c.before.before in
    rw e (inside (number a.value a.weight a.r) (rw e at c.if-z-gt32767.false) (rw e at c.if-z-lt0.false))

returns_3 : tie.Need-returns
unfolding placed
returns_3 c =
    let a = c.args in
    let e = reads c.before.before in
    let z = number a.value a.weight a.r in
    let o : lt_z (pos 32767) z ≡ false = rw e at c.if-z-gt32767.false in
    let u : lt_z z (pos 0) ≡ false = rw e at c.if-z-lt0.false in
    rw (e, to_z-of_z (inside z o u)) (held_own (pos 0) (pos 32767) z o u)

pub place_spec : {M : Type 1} → statement M
place_spec = tie.close (tie.spec (λ c κs. search rules) returns returns_2 cast_result returns_3)
