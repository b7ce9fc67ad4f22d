-- `fold16_run` meets its contract: each arm's result lies in 16 bits, and differs from s by a multiple of 65,536.
-- Assumes nothing.
use Prim.Native.Nat.{◌≤◌}
use mathlib.Core.Path.{◌≡◌, refl, sym}
use mathlib.Core.Bool.{true, false}
use native.Mathlib.Omega.{arith}
use lib.IntN.{ℤ, pos, negsuc, ◌+ℤ◌, ◌-ℤ◌}
use lib.Signed.{lt_z}
use mir.Syntax.{w16, w32}
use mir.Val.{SFits, to_z, of_z}
use mir.Facts.{to_z-of_z, sfits_widen}
use Rattle.ints.proofs.Order.{parts_alone, lt_z_true, lt_z_false}
use Rattle.ints.specs.Parts.{up, down}
use Rattle.ints.proofs.Sums.{sum_parts, up_sum, down_sum, diff_parts, up_diff, down_diff}
use Rattle.ints.proofs.Widths.{fits_up, fits_down, parts_fit}
use Rattle.ints.proofs.Wrapping.{wrap16_is}
use Rattle.wrapping.proofs.fold16_run.Statement.{statement}
use Rattle.wrapping.proofs.fold16_run.Tie as tie

wide : {z : ℤ} → SFits w16 z → SFits w32 z
wide f = sfits_widen {w = w16} tt f

module _ (s : ℤ) (b : (up s ≤ 65535) × (down s ≤ 65536)) where
  over : lt_z (pos 32767) s ≡ true → SFits w16 (s -ℤ pos 65536)
  over h =
      let l = lt_z_true (pos 32767) s h in
      parts_fit (s -ℤ pos 65536) (omega (arith, up_diff s (pos 65536))) (omega (arith, down_diff s (pos 65536)))

  under : lt_z s (negsuc 32767) ≡ true → SFits w16 (s +ℤ pos 65536)
  under h =
      let l = lt_z_true s (negsuc 32767) h in
      parts_fit (s +ℤ pos 65536) (omega (arith, up_sum s (pos 65536))) (omega (arith, down_sum s (pos 65536)))

  within : lt_z (pos 32767) s ≡ false → lt_z s (negsuc 32767) ≡ false → SFits w16 s
  within h k =
      parts_fit s (omega (arith, parts_alone s, lt_z_false (pos 32767) s h)) (omega (arith, parts_alone s, lt_z_false s (negsuc 32767) k))

-- the test of the first branch, and the test of the second, of s itself: the machine reads s back from its bits
sub_result : tie.Need-overflow_sub-result
sub_result c =
    let e = to_z-of_z c.ranges.s in
    let t : lt_z (pos 32767) (to_z w32 (of_z w32 c.args.s)) ≡ true = cc in
    rw e (wide (over c.args.s c.requires (rw e at t)))

cast_result : tie.Need-overflow_cast-result
cast_result c =
    let e = to_z-of_z c.ranges.s in
    let t : lt_z (pos 32767) (to_z w32 (of_z w32 c.args.s)) ≡ true = cc in
    let f = over c.args.s c.requires (rw e at t) in
    rw (e, to_z-of_z (wide f)) f

add_result : tie.Need-overflow_add-result
add_result c =
    let s = c.before.before in
    let e = to_z-of_z s.ranges.s in
    rw e (wide (under s.args.s s.requires (rw e at c.if-s-ltminus32768.true)))

cast_result_2 : tie.Need-overflow_cast-result-then-s-ltminus32768
cast_result_2 c =
    let s = c.before.before in
    let e = to_z-of_z s.ranges.s in
    let f = under s.args.s s.requires (rw e at c.if-s-ltminus32768.true) in
    rw (e, to_z-of_z (wide f)) f

cast_result_3 : tie.Need-overflow_cast-result-else-s-ltminus32768
cast_result_3 c =
    let s = c.before.before in
    let e = to_z-of_z s.ranges.s in
    let t : lt_z (pos 32767) (to_z w32 (of_z w32 s.args.s)) ≡ false = cc in
    rw e (within s.args.s s.requires (rw e at t) (rw e at c.if-s-ltminus32768.false))

returns_2 : tie.Need-returns-then-s-ltminus32768
returns_2 c =
    let s = c.before.before in
    let e = to_z-of_z s.ranges.s in
    let f = under s.args.s s.requires (rw e at c.if-s-ltminus32768.true) in
    rw (e, to_z-of_z (wide f), to_z-of_z f)
    (sym (wrap16_is s.args.s (s.args.s +ℤ pos 65536) 1 0 (omega (arith, sum_parts s.args.s (pos 65536))) (fits_up _ f) (fits_down _ f)))

returns_3 : tie.Need-returns-else-s-ltminus32768
returns_3 c =
    let s = c.before.before in
    let e = to_z-of_z s.ranges.s in
    let t : lt_z (pos 32767) (to_z w32 (of_z w32 s.args.s)) ≡ false = cc in
    let f = within s.args.s s.requires (rw e at t) (rw e at c.if-s-ltminus32768.false) in
    rw (e, to_z-of_z f) (sym (wrap16_is s.args.s s.args.s 0 0 refl (fits_up _ f) (fits_down _ f)))

pub fold16_run_spec : {M : Type 1} → statement M
fold16_run_spec =
    tie.close
    (tie.spec sub_result cast_result add_result cast_result_2 cast_result_3
    (λ c.
    let s = c.before in
    let e = to_z-of_z s.ranges.s in
    let t : lt_z (pos 32767) (to_z w32 (of_z w32 s.args.s)) ≡ true = cc in
    let f = over s.args.s s.requires (rw e at t) in
    rw (e, to_z-of_z (wide f), to_z-of_z f)
    (sym (wrap16_is s.args.s (s.args.s -ℤ pos 65536) 0 1 (omega (arith, diff_parts s.args.s (pos 65536))) (fits_up _ f) (fits_down _ f))))
    returns_2 returns_3)
