-- The part of a table of two entries, by one test. Assumes nothing.
use Prim.Native.Nat.{ℕ, ◌*◌}
use mathlib.Core.Path.{◌≡◌, sym, ap}
use mathlib.Core.Bool.{cond}
use mathlib.Core.List.{List, [], ◌∷◌}
use native.Mathlib.Nat.{mul-zero}
use native.Mathlib.Omega.{arith}
use borrow.Author.Tests.{lt-ltb, le-ltb}
use lib.Dec.{ltb}
use lib.ListN.{length, get_or}
use Rattle.deciding.proofs.Choice.{by_lt}
use Rattle.icdf.specs.Rule.{Icdf}
use Rattle.icdf.specs.Search.{search}
use Rattle.entdec_search.specs.declared.Part.{Part}
use Rattle.entdec_search.specs.Inner.{part_of}

-- symbol 1, from 0 up to the edge, where the value lies below it, else symbol 0, from the edge up to the range
abbrev pub by_edge : ℕ → ℕ → ℕ → Part
by_edge rng edge v = record { symbol = cond (ltb v edge) 1 0; low = cond (ltb v edge) 0 edge; top = cond (ltb v edge) edge rng }

pub two_entries : (scale rng unit v : ℕ) (t : List ℕ) → Icdf scale t → length t ≡ 2 → by_edge rng (unit * get_or t 0 0) v ≡ part_of rng unit v t
unfolding search
two_entries scale rng unit v [] h l = absurd (omega arith)
two_entries scale rng unit v (x ∷ []) h l = absurd (omega arith)
two_entries scale rng unit v (x ∷ y ∷ []) h l =
    let z : y ≡ 0 = h.ends in
    let e : ltb v 0 ≡ _ = le-ltb v 0 (omega arith) in
    by_lt v (unit * x)
    (λ p. rw (lt-ltb v (unit * x) p, z, mul-zero unit, e)
    (ap {B = Part} (λ (n : ℕ). record { symbol = 1; low = n; top = unit * x }) (sym (mul-zero unit))))
    (λ p. rw (le-ltb v (unit * x) p))
two_entries scale rng unit v (x ∷ y ∷ w ∷ t) h l = absurd (omega arith)
