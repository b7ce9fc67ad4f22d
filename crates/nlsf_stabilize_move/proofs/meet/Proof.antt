-- `meet` meets its contract. Assumes nothing.
use mathlib.Core.Path.{◌≡◌}
use mathlib.Core.Bool.{false}
use native.Mathlib.Omega.{arith}
use lib.IntN.{ℤ, pos, ◌+ℤ◌}
use lib.Signed.{lt_z}
use mir.Syntax.{w32}
use mir.Val.{SFits, to_z, of_z}
use mir.Facts.{to_z-of_z}
use Rattle.ints.proofs.Sums.{up_sum, down_sum}
use Rattle.ints.proofs.Widths.{parts_fit, shr_fits}
use Rattle.spectrum.proofs.Extremes.{held_hi, held_lo, held_own}
use Rattle.spectrum.specs.Values.{half}
use Rattle.nlsf_stabilize_move.specs.Inner.{meeting}
use Rattle.nlsf_stabilize_move.proofs.meet.Statement.{statement}
use Rattle.nlsf_stabilize_move.proofs.meet.Tie as tie

-- what 32 bits keep of a number
abbrev kept : ℤ → ℤ
kept z = to_z w32 (of_z w32 z)

-- each sum on the way to the middle, the middle itself, and the upper limit
module _ (c : tie.Start) where
  abbrev a : ℤ
  a = c.args.a

  abbrev b : ℤ
  b = c.args.b

  abbrev d : ℤ
  d = c.args.odd

  abbrev r : ℤ
  r = c.args.room

  two : SFits w32 (a +ℤ b)
  two = parts_fit (a +ℤ b) (omega (arith, up_sum a b, c.requires)) (omega (arith, down_sum a b, c.requires))

  three : SFits w32 (a +ℤ b +ℤ pos 1)
  three =
      parts_fit (a +ℤ b +ℤ pos 1) (omega (arith, up_sum (a +ℤ b) (pos 1), up_sum a b, c.requires))
      (omega (arith, down_sum (a +ℤ b) (pos 1), down_sum a b, c.requires))

  four : SFits w32 (a +ℤ b +ℤ pos 1 +ℤ d)
  four =
      let t = a +ℤ b +ℤ pos 1 in
      parts_fit (t +ℤ d) (omega (arith, up_sum t d, up_sum (a +ℤ b) (pos 1), up_sum a b, c.requires))
      (omega (arith, down_sum t d, down_sum (a +ℤ b) (pos 1), down_sum a b, c.requires))

  middle : SFits w32 (half (a +ℤ b +ℤ pos 1 +ℤ d))
  middle = shr_fits (a +ℤ b +ℤ pos 1 +ℤ d) 2 four

  most : SFits w32 (r +ℤ d)
  most = parts_fit (r +ℤ d) (omega (arith, up_sum r d, c.requires)) (omega (arith, down_sum r d, c.requires))

  -- what the machine comes to
  middle_is : kept (half (kept (kept (kept (kept a +ℤ kept b) +ℤ pos 1) +ℤ kept d))) ≡ half (a +ℤ b +ℤ pos 1 +ℤ d)
  middle_is =
      let f = c.ranges in
      rw (to_z-of_z f.a, to_z-of_z f.b, to_z-of_z f.odd, to_z-of_z two, to_z-of_z three, to_z-of_z four, to_z-of_z middle)

  most_is : kept (kept r +ℤ kept d) ≡ r +ℤ d
  most_is = rw (to_z-of_z c.ranges.room, to_z-of_z c.ranges.odd, to_z-of_z most)

add_c : tie.Need-overflow_add-c
add_c c = let f = c.ranges in rw (to_z-of_z f.a, to_z-of_z f.b) (two c)

add_c_2 : tie.Need-overflow_add-c-2
add_c_2 c = let f = c.ranges in rw (to_z-of_z f.a, to_z-of_z f.b, to_z-of_z (two c)) (three c)

add_c_3 : tie.Need-overflow_add-c-3
add_c_3 c =
    let f = c.ranges in rw (to_z-of_z f.a, to_z-of_z f.b, to_z-of_z f.odd, to_z-of_z (two c), to_z-of_z (three c)) (four c)

add_most : tie.Need-overflow_add-most
add_most c = let f = c.ranges in rw (to_z-of_z f.odd, to_z-of_z f.room) (most c)

returns : tie.Need-returns-then-c-most
unfolding meeting
returns c = let s = c.before in rw (most_is s) (held_hi _ _ _ (rw (middle_is s, most_is s) at c.if-c-most.true))

-- past the first test
not_above : (c : tie.Else-c-most) → let s = c.before in lt_z (r s +ℤ d s) (half (a s +ℤ b s +ℤ pos 1 +ℤ d s)) ≡ false
not_above c = let s = c.before in rw (middle_is s, most_is s) at c.if-c-most.false

returns_2 : tie.Need-returns-then-c-lt0
unfolding meeting
returns_2 c = held_lo _ _ _ (not_above c.before) (rw (middle_is c.before.before) at c.if-c-lt0.true)

returns_3 : tie.Need-returns
unfolding meeting
returns_3 c =
    let e = middle_is c.before.before in rw e (held_own _ _ _ (not_above c.before) (rw e at c.if-c-lt0.false))

pub meet_spec : {M : Type 1} → statement M
meet_spec = tie.close (tie.spec add_c add_c_2 add_c_3 add_most returns returns_2 returns_3)
