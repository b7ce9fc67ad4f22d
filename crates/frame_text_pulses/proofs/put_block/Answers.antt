-- The first number stands where a word would. Assumes nothing.
use Rattle.std.proofs.Common.{◌≡◌, ◌∷◌, ◌-◌, [], List, ℤ, pos, refl, arith, rules, length, take, drop, get_or}
use lib.ListN.{length-drop}
use lib.Seq.{take_all}
use mir.Syntax.{w16}
use mir.Val.{SFits}
use mir.Facts.{to_z-of_z}
use Rattle.numerals.specs.Decimal.{decimal}
use Rattle.numerals.proofs.Put.{put_then, put_as}
use Rattle.listing.specs.Lines.{line, numbers}
use Rattle.frame_text_pulses.proofs.put_block.Goals as goal

begins : (xs : List ℤ) → length xs ≡ 16 → line (decimal (get_or xs 0 (pos 0))) (drop 1 xs) ≡ numbers xs
unfolding numbers
begins [] e = absurd (omega arith)
begins (x ∷ xs) e = refl

pub returns : goal.returns
unfolding line
returns c =
    let xs = c.args.xs.now in
    let f : SFits w16 (get_or xs 0 (pos 0)) = search rules in
    let e : take (length xs - 1) (drop 1 xs) ≡ drop 1 xs = take_all (length xs - 1) (drop 1 xs) (omega (arith, length-drop 1 xs)) in
    put_as
    (put_then (rw (to_z-of_z f) at c.put_number_run-place.ensures)
    (put_then (rw e at c.put_numbers_run-place.ensures) c.put_byte_run.ensures))
    (begins xs (search rules))
    (omega (arith, length-drop 1 xs))
