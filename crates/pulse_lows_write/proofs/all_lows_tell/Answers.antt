-- The low bits of one more place.
use Rattle.std.proofs.Common.{◌≡◌, ◌∙◌, length, get_or, pos, sym, rules, arith}
use mathlib.Core.List.{List, map}
use lib.IntN.{ℤ, nat_abs}
use lib.ListN.{length-map, get_or-map}
use mir.Facts.{to_z-of_z}
use mir.Syntax.{w16}
use mir.Val.{SFits}
use Rattle.tree.proofs.Told.{told_within}
use Rattle.silk.proofs.PulseTold.{place_told, places_told}
use Rattle.pulse_lows_write.proofs.all_lows_tell.Goals as goal

counted : (s : List ℤ) → length s ≡ 16 → length (map nat_abs s) ≡ 16
counted s h = length-map s nat_abs ∙ h

pub loop-k-preserved : goal.loop-k-preserved
loop-k-preserved c =
    let s = c.args.pulses.now in
    let l = c.loop-k in
    let f : SFits w16 (get_or c.args.pulses.now c.loop-k.k (pos 0)) = search rules in
    let m = rw (to_z-of_z f) at c.magnitude.ensures in
    let e = m ∙ sym (get_or-map nat_abs s l.k (pos 0)) in
    place_told _ _ _ _ _ (map nat_abs s) l.k l.invariant (omega (arith, counted s c.requires.pulses_len)) e c.low_bits_tell-w.ensures

pub returns : goal.returns
returns c =
    let s = c.args.pulses.now in
    let l = c.loop-k in
    told_within (omega arith)
    (places_told _ _ _ _ _ (map nat_abs s) l.k l.invariant (omega (arith, counted s c.requires.pulses_len)))
