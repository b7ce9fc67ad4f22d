-- The magnitude of this place, shifted, is at most the total.
use Rattle.std.proofs.Common.{◌≡◌, ◌+◌, ◌/◌, ◌^◌, ◌<◌, ◌++◌, ◌∷◌, ◌∙◌, [], ℕ, List, length, get_or, take, pos, sym, ap}
use Rattle.std.proofs.Common.{rules, arith, add-one, length-set}
use mathlib.Core.Path.{ap₂}
use lib.IntN.{ℤ, nat_abs}
use lib.ListN.{set}
use lib.Seq.{take-suc, take-suc-set}
use mir.Facts.{to_z-of_z}
use mir.Syntax.{w16}
use mir.Val.{SFits}
use Rattle.silk.specs.PulseWriting.{shifted_by}
use Rattle.silk.proofs.PulseLaws.{at_most_total}
use Rattle.pulse_shifts.proofs.Shifted.{shifted_size, shifted_at}
use Rattle.pulse_shifts.proofs.shrink_run.Goals as goal

value : (j : ℕ) (p : List ℤ) (k m : ℕ) → m ≡ nat_abs (get_or p k (pos 0)) → m / 2 ^ j ≡ get_or (shifted_by j p) k 0
value j p k m e = ap (λ (n : ℕ). n / 2 ^ j) e ∙ sym (shifted_at j p k)

-- one place more
grown : (s v : List ℕ) (k x : ℕ) → k < length s → k < length v → take k s ≡ take k v → x ≡ get_or v k 0
    → take (k + 1) (set s k x) ≡ take (k + 1) v
grown s v k x h g e q =
    rw add-one
    (take-suc-set s k x h ∙ ap₂ (λ (a : List ℕ) (y : ℕ). a ++ (y ∷ [])) e q ∙ sym (take-suc v k 0 g))

pub overflow_cast-places : goal.overflow_cast-places
overflow_cast-places c =
    let p = c.args.part.now in
    let f : SFits w16 (get_or c.args.part.now c.loop-k.k (pos 0)) = search rules in
    let e = rw (to_z-of_z f) at c.magnitude.ensures in
    omega (arith, value c.args.j p c.loop-k.k c.magnitude.result e, at_most_total (shifted_by c.args.j p) c.loop-k.k, c.requires.3)

pub loop-k-preserved : goal.loop-k-preserved
loop-k-preserved c =
    let l = c.loop-k in
    let p = c.args.part.now in
    let f : SFits w16 (get_or c.args.part.now c.loop-k.k (pos 0)) = search rules in
    let e = rw (to_z-of_z f) at c.magnitude.ensures in
    record {
      size = length-set l.places l.k _ ∙ l.invariant.size;
      is =
          grown l.places (shifted_by c.args.j p) l.k _ (omega (arith, l.invariant.size)) (omega (arith, shifted_size c.args.j p)) l.invariant.is
          (value c.args.j p l.k c.magnitude.result e);
    }
