-- A text put into a lent buffer at a place: what an inner function that writes promises. Assumes nothing.
use Prim.Native.Nat.{ℕ, suc, ◌+◌, ◌-◌, ◌≤◌}
use mathlib.Core.Path.{◌≡◌, refl, sym, ap, ◌∙◌}
use mathlib.Core.List.{List, [], ◌∷◌, ◌++◌}
use native.Mathlib.Omega.{arith}
use lib.ListN.{length, take, drop, set, length-append}
use lib.Seq.{sets, sets-eq, take-length}
use borrow.Rule.Slice.PartMut.{put_mid}
use Rattle.std.proofs.lemmas.Slice.{put_mid-paste}
use Rattle.numerals.specs.Inner.{Put}

pub put_none : (l : List ℕ) (at : ℕ) → Put 0 l at [] l at
put_none l at = record { is = refl; behind = omega arith; most = omega arith }

sets_append : (l : List ℕ) (at : ℕ) (t u : List ℕ) → sets (sets l at t) (at + length t) u ≡ sets l at (t ++ u)
sets_append l at [] u = let e : at + 0 ≡ at = omega arith in ap (λ (k : ℕ). sets l k u) e
sets_append l at (b ∷ t) u =
    let e : at + suc (length t) ≡ suc at + length t = omega arith in
    ap (λ (k : ℕ). sets (sets (set l at b) (suc at) t) k u) e ∙ sets_append (set l at b) (suc at) t u

-- one text behind another
pub put_then : {n k : ℕ} {l m p t u : List ℕ} {at i j : ℕ} → Put n l at t m i → Put k m i u p j → Put (n + k) l at (t ++ u) p j
put_then {n} {k} {l} {m} {p} {t} {u} {at} {i} {j} a b =
    record {
      is = b.is ∙ ap (λ (x : List ℕ). sets x i u) a.is ∙ ap (λ (x : ℕ). sets (sets l at t) x u) a.behind ∙ sets_append l at t u;
      behind = omega (arith, a.behind, b.behind, length-append t u);
      most = omega (arith, a.most, b.most, length-append t u);
    }

-- the same text, by another name and with another bound
pub put_as : {n k : ℕ} {l m t u : List ℕ} {at i : ℕ} → Put n l at t m i → t ≡ u → n ≤ k → Put k l at u m i
put_as {n} {k} {l} {m} {t} {u} {at} {i} a e h =
    record {
      is = a.is ∙ ap (λ (x : List ℕ). sets l at x) e;
      behind = a.behind ∙ ap (λ (x : List ℕ). at + length x) e;
      most = omega (arith, a.most, ap length e);
    }

-- a part of the buffer, written as a whole
pub put_part : (l : List ℕ) (at k : ℕ) {t m : List ℕ} → m ≡ t → length t ≡ k → at + k ≤ length l → Put k l at t (put_mid at (at + k - at) l m) (at + k)
put_part l at k {t} {m} e n h =
    record {
      is = put_mid-paste at (at + k - at) l m t k e (omega arith) (sym n)
          ∙ ap (λ (i : ℕ). take at l ++ take i t ++ drop (at + i) l) (sym n)
          ∙ ap (λ (x : List ℕ). take at l ++ x ++ drop (at + length t) l) (take-length t)
          ∙ sym (sets-eq t l at (omega arith));
      behind = omega arith;
      most = omega arith;
    }
