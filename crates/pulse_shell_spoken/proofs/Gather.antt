-- The parts that have pulses, gathered one after the other. Assumes nothing.
use Prim.Native.Nat.{ℕ, ◌+◌, ◌<◌, ◌≤◌}
use mathlib.Core.Path.{◌≡◌, refl, sym, ap, ◌∙◌}
use mathlib.Core.Bool.{Bool, true, false, cond}
use mathlib.Core.List.{List, [], ◌∷◌, ◌++◌, append-nil}
use native.Mathlib.Omega.{arith}
use borrow.Author.Tests.{eqb-true, eqb-false, eq-eqb, ne_eqb}
use lib.Dec.{eqb}
use lib.ListN.{get_or, set, length-append, length-set, get_or-append}
use lib.Seq.{get_or-set_same, get_or-set_other, get_or-append-add}
use Rattle.deciding.proofs.Choice.{by_lt}
use Rattle.pulse_shell_splits.specs.Inner.{Part, all_of}
use Rattle.pulse_shell_spoken.specs.Inner.{no_part, spoken, Stored, Sized, Gathered}

either : (b : Bool) (q : Part) {xs : List Part} (ys zs : List Part) → xs ≡ ys ++ zs → cond b xs (q ∷ xs) ≡ cond b ys (q ∷ ys) ++ zs
either true q ys zs e = e
either false q ys zs e = ap {B = List Part} (λ (l : List Part). q ∷ l) e

spoken_append : (qs rs : List Part) → spoken (qs ++ rs) ≡ spoken qs ++ spoken rs
unfolding spoken
spoken_append [] rs = refl
spoken_append (q ∷ qs) rs = either (eqb (all_of q) 0) q (spoken qs) (spoken rs) (spoken_append qs rs)

spoken_none : (q : Part) → all_of q ≡ 0 → spoken (q ∷ []) ≡ []
unfolding spoken
spoken_none q e = rw (eq-eqb (all_of q) 0 e)

spoken_some : (q : Part) → 1 ≤ all_of q → spoken (q ∷ []) ≡ q ∷ []
unfolding spoken
spoken_some q h = rw (ne_eqb (all_of q) 0 (λ e. omega arith))

pub gathered_none : {start all left : List ℕ} → Sized start all left → Gathered (spoken []) start all left 0
unfolding spoken
gathered_none s = record { count = refl; most = omega arith; sizes = s; at = λ j h. absurd (omega arith) }

-- what is stored at n says nothing of the entries before it
kept : {qs : List Part} {start all left : List ℕ} {n : ℕ} (a b c : ℕ) → Gathered qs start all left n → (j : ℕ) → j < n
    → Stored (get_or (set start n a) j 0) (get_or (set all n b) j 0) (get_or (set left n c) j 0) (get_or qs j no_part)
kept {start = start} {all = all} {left = left} {n = n} a b c g j h =
    let o : j ≡ n → ⊥ = λ e. omega arith in
    rw (get_or-set_other start n j a 0 o, get_or-set_other all n j b 0 o, get_or-set_other left n j c 0 o) (g.at j h)

-- one more part: it is stored behind the others, and counted if it has pulses
pub gathered_next : {start all left : List ℕ} {n : ℕ} (qs : List Part) (q : Part) (a b c : ℕ) → Gathered (spoken qs) start all left n → n < 15
    → b ≡ all_of q → (1 ≤ b → Stored a b c q)
    → Gathered (spoken (qs ++ (q ∷ []))) (set start n a) (set all n b) (set left n c) (cond (eqb b 0) n (n + 1))
gathered_next {start = start} {all = all} {left = left} {n = n} qs q a b c g l e f =
    by_case (eqb b 0) refl
  where
    still : Sized (set start n a) (set all n b) (set left n c)
    still =
        record {
          start_size = length-set start n a ∙ g.sizes.start_size;
          all_size = length-set all n b ∙ g.sizes.all_size;
          left_size = length-set left n c ∙ g.sizes.left_size;
        }

    by_case : (v : Bool) → eqb b 0 ≡ v → Gathered (spoken (qs ++ (q ∷ []))) (set start n a) (set all n b) (set left n c) (cond v n (n + 1))
    by_case true h =
        let i : spoken (qs ++ (q ∷ [])) ≡ spoken qs =
        spoken_append qs (q ∷ []) ∙ ap (λ (r : List Part). spoken qs ++ r) (spoken_none q (sym e ∙ eqb-true b 0 h)) ∙ append-nil (spoken qs) in
        rw i (record { count = g.count; most = g.most; sizes = still; at = kept a b c g })
    by_case false h =
        let m : 1 ≤ b = omega (arith, eqb-false b 0 h) in
        let i : spoken (qs ++ (q ∷ [])) ≡ spoken qs ++ (q ∷ []) =
        spoken_append qs (q ∷ []) ∙ ap (λ (r : List Part). spoken qs ++ r) (spoken_some q (omega arith)) in
        let x : get_or (spoken qs ++ (q ∷ [])) n no_part ≡ q =
        ap (λ (k : ℕ). get_or (spoken qs ++ (q ∷ [])) k no_part) (g.count ∙ omega arith) ∙ get_or-append-add (spoken qs) (q ∷ []) 0 no_part in
        rw i
        (record {
          count = omega (arith, g.count, length-append (spoken qs) (q ∷ []));
          most = omega arith;
          sizes = still;
          at = λ j o.
              by_lt j n
              (λ p. rw (get_or-append (spoken qs) (q ∷ []) no_part j (omega (arith, g.count))) (kept a b c g j p))
              (λ p.
              let y : j ≡ n = omega arith in
              let k = g.sizes in
              let u = get_or-set_same start n a 0 (omega (arith, k.start_size)) in
              let v = get_or-set_same all n b 0 (omega (arith, k.all_size)) in
              let w = get_or-set_same left n c 0 (omega (arith, k.left_size)) in
              rw (y, x, u, v, w) (f m));
        })
