-- `nudge` meets its contract. Assumes nothing.
use Prim.Native.Nat.{zero, suc}
use mathlib.Core.Path.{◌≡◌, refl}
use native.Mathlib.Omega.{arith}
use borrow.Author.Rules.{rules, sfits_of}
use borrow.Author.Tests.{lt-ltb}
use lib.Dec.{lit<}
use lib.IntN.{ℤ, pos, negsuc, ◌+ℤ◌, ◌*ℤ◌}
use mir.Syntax.{w8, w32}
use mir.Val.{SFits, to_z, of_z}
use mir.Facts.{to_z-of_z, sfits_widen}
use Rattle.ints.proofs.Sums.{up_sum, down_sum, up_times, down_times}
use Rattle.ints.proofs.Widths.{fits_up, fits_down, parts_fit, times_fits}
use Rattle.spectrum.proofs.Extremes.{chosen_lt_z}
use Rattle.spectrum.specs.Residuals.{nudged}
use Rattle.spectrum.specs.Values.{Mag}
use Rattle.nlsf_places.specs.Inner.{toward_zero}
use Rattle.nlsf_places.proofs.nudge.Statement.{statement}
use Rattle.nlsf_places.proofs.nudge.Tie as tie

-- the sum is the index nudged
summed : (x : ℤ) → x *ℤ pos 1024 +ℤ toward_zero x ≡ nudged x
unfolding nudged toward_zero
summed (pos zero) = refl
summed (pos (suc n)) = rw (lt-ltb 0 (suc n) (omega arith))
summed (negsuc n) = refl

small : (x : ℤ) → Mag 102 (toward_zero x)
unfolding toward_zero
small x =
    chosen_lt_z (Mag 102) (pos 0) x (λ h. (omega arith, omega arith))
    (λ h. chosen_lt_z (Mag 102) x (pos 0) (λ k. (omega arith, omega arith)) (λ k. (omega arith, omega arith)))

module _ (x : ℤ) (f : SFits w8 x) where
  wide : SFits w32 x
  wide = sfits_widen {w = w8} tt f

  times : SFits w32 (x *ℤ pos 1024)
  times = times_fits x 1024 128 1024 (omega (arith, fits_up x f)) (omega (arith, fits_down x f)) (omega arith) (lit< tt)

  sum : SFits w32 (x *ℤ pos 1024 +ℤ toward_zero x)
  sum =
      let y = x *ℤ pos 1024 in
      let t = toward_zero x in
      parts_fit (y +ℤ t) (omega (arith, up_sum y t, up_times x 1024, fits_up x f, (small x).0))
      (omega (arith, down_sum y t, down_times x 1024, fits_down x f, (small x).1))

  -- what the machine reads, and its product
  reads : to_z w32 (of_z w32 (to_z w8 (of_z w8 x))) ≡ x
  reads = simp (to_z-of_z f, to_z-of_z {w = w32} wide)

  product : to_z w32 (of_z w32 (to_z w32 (of_z w32 (to_z w8 (of_z w8 x))) *ℤ pos 1024)) ≡ x *ℤ pos 1024
  product = rw reads (to_z-of_z times)

-- what the machine adds
sums : (c : tie.After-toward_zero) → let x = c.args.x in
    to_z w32 (of_z w32 (to_z w32 (of_z w32 (to_z w8 (of_z w8 x))) *ℤ pos 1024)) +ℤ to_z w32 (of_z w32 c.toward_zero.result) ≡ x *ℤ pos 1024 +ℤ toward_zero x
sums c =
    let x = c.args.x in
    let f = c.ranges.x in
    let e : c.toward_zero.result ≡ toward_zero x = rw (to_z-of_z f) at c.toward_zero.ensures in
    rw (product x f, to_z-of_z {w = w32} (sfits_of c.toward_zero.type_inv), e)

cast_result : tie.Need-overflow_cast-result
cast_result c = rw (to_z-of_z c.ranges.x) (wide c.args.x c.ranges.x)

mul_result : tie.Need-overflow_mul-result
mul_result c = rw (reads c.args.x c.ranges.x) (times c.args.x c.ranges.x)

add_result : tie.Need-overflow_add-result
add_result c = rw (sums c) (sum c.args.x c.ranges.x)

returns : tie.Need-returns
returns c =
    let x = c.args.x in
    rw (sums c, to_z-of_z (sum x c.ranges.x)) (summed x)

pub nudge_spec : {M : Type 1} → statement M
nudge_spec = tie.close (tie.spec cast_result mul_result (λ c κs. search rules) add_result returns)
