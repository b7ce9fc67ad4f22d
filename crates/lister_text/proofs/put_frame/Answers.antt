-- The side indices' lines, then those of the pulses behind them. Assumes nothing.
use Rattle.std.proofs.Common.{◌≡◌, ℕ, zero, suc, ℤ, ◌*◌, ◌≤◌, List, ◌∷◌, ◌++◌, pos, nat_abs, refl, ap, ◌∙◌, rules, arith, take, replicate}
use native.Mathlib.Nat.{le_of_suc-le-suc, not-suc-le-zero}
use mir.Syntax.{w8}
use mir.Val.{SFits}
use mir.Facts.{to_z-of_z}
use Rattle.numerals.proofs.Put.{put_then, put_as}
use Rattle.silk.specs.Inner.Indices.{Rate, eight, twelve, sixteen}
use Rattle.silk.proofs.IndexRows.{subframes_most}
use Rattle.silk.proofs.PulseCallLaws.{blocks_most}
use Rattle.entcode.specs.declared.Dec.{Dec}
use Rattle.frame_text.specs.FrameText.{indices_text}
use Rattle.lister_text.specs.ListerText.{excitation_text}
use Rattle.lister_text.proofs.put_frame.Goals as goal

rate_most : {khz : ℕ} → Rate khz → khz ≤ 16
rate_most eight = omega arith
rate_most twelve = omega arith
rate_most sixteen = omega arith

take_same : (n m : ℕ) (x : ℤ) → n ≤ m → take n (replicate m x) ≡ replicate n x
take_same zero m x h = refl
take_same (suc n) zero x h = absurd (not-suc-le-zero h)
take_same (suc n) (suc m) x h = ap (λ (l : List ℤ). x ∷ l) (take_same n m x (le_of_suc-le-suc h))

-- the text of the pulses is that of the numbers that the frame has
same_text : (l b : List ℕ) (d : Dec) (khz subframes : ℕ) {p q : List ℤ} {s t o r : ℕ} → p ≡ q → s ≡ t → o ≡ r
    → l ++ excitation_text b d p khz subframes s o ≡ l ++ excitation_text b d q khz subframes t r
same_text l b d khz subframes e f g = cc

pub returns : goal.returns
returns c =
    let a = c.args in
    let x = a.a.indices in
    let signal : SFits w8 x.signal = search rules in
    let offset : SFits w8 x.offset = search rules in
    let s = c.from.ensures ∙ c.unsigned_abs.ensures.value ∙ ap nat_abs (to_z-of_z signal) in
    let o = c.from-2.ensures ∙ c.unsigned_abs-2.ensures.value ∙ ap nat_abs (to_z-of_z offset) in
    let n = c.blocks_of_run-n in
    let few = blocks_most a.khz a.subframes (rate_most c.requires.rate.0) (subframes_most c.requires.rate.1) in
    let pulses = take (16 * n.result) (replicate 320 (pos 0)) in
    let blanks = take_same (16 * n.result) 320 (pos 0) (omega (arith, n.ensures, few)) ∙ ap (λ (k : ℕ). replicate (16 * k) (pos 0)) n.ensures in
    let u = excitation_text a.packet.now a.a.state pulses a.khz a.subframes c.from.result c.from-2.result in
    put_as (put_then {u = u} c.put_indices_run-place.ensures c.put_pulses.ensures)
    (same_text (indices_text a.khz a.subframes x) a.packet.now a.a.state a.khz a.subframes blanks s o)
    (omega arith)
