-- One more place from the end: the machine tests the bits of its pulse.
use Rattle.std.proofs.Common.{◌≡◌, ◌-◌, ◌≤◌, ◌∷◌, ◌∙◌, ℕ, List, length, get_or, drop, pos, sym, ap, rules, arith}
use Prim.Native.Nat.{suc}
use mathlib.Core.Path.{ap₂}
use borrow.Author.Tests.{eqb-true}
use lib.Dec.{eqb}
use lib.IntN.{ℤ}
use lib.ListN.{replicate}
use lib.Seq.{drop-cons, drop-length}
use mir.Syntax.{w16}
use mir.Val.{SFits, of_z}
use Rattle.deciding.proofs.Both.{and_both}
use Rattle.pulse_signs_read.proofs.Bits.{zero_of}
use Rattle.pulse_signs_read.proofs.no_pulse.Goals as goal

zero_end : (s : List ℤ) → drop (length s) s ≡ replicate (length s - length s) (pos 0)
zero_end s = let e : length s - length s ≡ 0 = omega arith in drop-length s ∙ sym (ap (λ (n : ℕ). replicate n (pos 0)) e)

zero_next : (s : List ℤ) (k : ℕ) → 1 ≤ k → k ≤ length s → get_or s (k - 1) (pos 0) ≡ pos 0
    → drop k s ≡ replicate (length s - k) (pos 0) → drop (k - 1) s ≡ replicate (length s - (k - 1)) (pos 0)
zero_next s k h l z r =
    let e : k ≡ suc (k - 1) = omega arith in
    let f : length s - (k - 1) ≡ suc (length s - k) = omega arith in
    drop-cons s (k - 1) (pos 0) (omega arith)
    ∙ ap₂ (λ (x : ℤ) (t : List ℤ). x ∷ t) z (sym (ap (λ (n : ℕ). drop n s) e) ∙ r)
    ∙ sym (ap (λ (n : ℕ). replicate n (pos 0)) f)

pub loop-k-init : goal.loop-k-init
loop-k-init c = λ e. zero_end c.args.places.now

pub loop-k-preserved : goal.loop-k-preserved
loop-k-preserved c =
    let l = c.loop-k in
    let s = c.args.places.now in
    let x = get_or c.args.places.now (c.loop-k.k - 1) (pos 0) in
    let f : SFits w16 (get_or c.args.places.now (c.loop-k.k - 1) (pos 0)) = search rules in
    λ e.
    let p = and_both (eqb (of_z w16 x) 0) l.none e in
    let z = zero_of x f (eqb-true (of_z w16 x) 0 p.0) in
    zero_next s l.k (omega arith) (omega arith) z (l.invariant p.1)
