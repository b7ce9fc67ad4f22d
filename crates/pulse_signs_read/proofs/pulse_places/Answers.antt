-- A place more, by the test whether it is 0.
use Rattle.std.proofs.Common.{◌≡◌, ◌+◌, ◌<◌, ◌≤◌, ℕ, length, get_or, refl, ap, true, false, pos, rules, arith}
use Prim.Native.Nat.{zero, suc}
use mathlib.Core.Bool.{Bool, not}
use mathlib.Core.List.{List}
use borrow.Author.Tests.{eqb-true, eqb-false}
use lib.Dec.{eqb}
use lib.IntN.{ℤ, negsuc, nat_abs}
use lib.ListN.{set}
use mir.Syntax.{w16}
use mir.Val.{SFits, of_z, bool_byte}
use Rattle.pulse_signs_read.specs.Inner.{mag, Gathered}
use Rattle.pulse_signs_read.proofs.Bits.{zero_of}
use Rattle.pulse_signs_read.proofs.Gathered.{gathered_none, gathered_some}
use Rattle.pulse_signs_read.proofs.pulse_places.Goals as goal

some : (m : ℤ) → (m ≡ pos 0 → ⊥) → 1 ≤ nat_abs m
some (pos zero) h = absurd (h refl)
some (pos (suc n)) h = omega arith
some (negsuc n) h = omega arith

stepped : (s : List ℤ) (at : List ℕ) (n k : ℕ) → Gathered s at n k → n < length at → (t : Bool) → (t ≡ true → mag s k ≡ 0)
    → (t ≡ false → 1 ≤ mag s k) → Gathered s (set at n k) (n + bool_byte (not t)) (k + 1)
stepped s at n k g l true f h = let e : n + 0 ≡ n = omega arith in rw e (gathered_none s at n k g (f refl))
stepped s at n k g l false f h = gathered_some s at n k g l (h refl)

pub loop-k-preserved : goal.loop-k-preserved
loop-k-preserved c =
    let l = c.loop-k in
    let s = c.args.places.now in
    let x = get_or c.args.places.now c.loop-k.k (pos 0) in
    let f : SFits w16 (get_or c.args.places.now c.loop-k.k (pos 0)) = search rules in
    let g = l.invariant.gathered in
    record {
      size = search rules;
      gathered =
          rw c.from-n.ensures
          (stepped s l.at l.n l.k g (omega (arith, g.count)) (eqb (of_z w16 x) 0)
          (λ e. ap nat_abs (zero_of x f (eqb-true (of_z w16 x) 0 e)))
          (λ e. some x (λ q. eqb-false (of_z w16 x) 0 e (ap (of_z w16) q))));
    }
