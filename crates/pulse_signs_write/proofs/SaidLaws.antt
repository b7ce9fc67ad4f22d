-- Laws of the symbols of signs: gathered pulse by pulse, and written one after the other, they are what the tree of a block's signs says.
-- Assumes nothing.
use Prim.Native.Nat.{ℕ, zero, suc, ◌+◌, ◌*◌, ◌<◌, ◌≤◌}
use mathlib.Core.Path.{◌≡◌, refl, sym, ap, ap₂, subst, ◌∙◌}
use mathlib.Core.Bool.{cond}
use mathlib.Core.List.{List, [], ◌∷◌, ◌++◌, map, append_assoc, append-nil}
use native.Mathlib.Nat.{add-zero}
use native.Mathlib.Numerals.{add-one}
use native.Mathlib.Omega.{arith}
use borrow.Author.Tests.{le-ltb}
use lib.IntN.{ℤ, pos, negsuc, nat_abs}
use lib.ListN.{length, get_or, set, take, drop, drop_of_length-le}
use lib.Seq.{take-suc, take-suc-set, take-set-le, drop-cons}
use lib.Signed.{lt_z}
use Rattle.lists.specs.AtMost.{AtMost}
use Rattle.lists.proofs.AtMostLaws.{at_most_append}
use Rattle.entcode.specs.Models.{Sym, tab}
use Rattle.entcode.specs.Flat.{Out}
use Rattle.entcode.specs.Inner.Writing.{Core, Wrote}
use Rattle.tree.specs.Asks.{Asks, done, ask, symbols}
use Rattle.tree.specs.Telling.{written_all}
use Rattle.tree.specs.Inner.Told.{Told, Midway}
use Rattle.tree.proofs.Told.{midway_asked, midway_end}
use Rattle.silk.specs.PulseSyntax.{each, sign}
use Rattle.silk.proofs.PulseTold.{each_said}
use Rattle.pulse_signs_write.specs.Inner.{sign_of, signs_said}

-- ---- gathered

pub none_said : (z : ℤ) → z ≡ pos 0 → length (sign_of z) ≡ 0
none_said z e = rw e

pub one_said : (z : ℤ) → (z ≡ pos 0 → ⊥) → length (sign_of z) ≡ 1
one_said (pos zero) n = absurd (n refl)
one_said (pos (suc m)) n = refl
one_said (negsuc m) n = refl

pub few_said : (z : ℤ) → length (sign_of z) ≤ 1
few_said (pos zero) = omega arith
few_said (pos (suc m)) = omega arith
few_said (negsuc m) = omega arith

sign_bit : (z : ℤ) → AtMost 1 (sign_of z)
sign_bit (pos zero) i = omega arith
sign_bit (pos (suc m)) zero = omega arith
sign_bit (pos (suc m)) (suc i) = omega arith
sign_bit (negsuc m) zero = omega arith
sign_bit (negsuc m) (suc i) = omega arith

pub signs_bits : (zs : List ℤ) → AtMost 1 (signs_said zs)
unfolding signs_said
signs_bits [] i = omega arith
signs_bits (z ∷ zs) i = at_most_append 1 (sign_of z) (signs_said zs) (sign_bit z) (signs_bits zs) i

signs_snoc : (a : List ℤ) (z : ℤ) → signs_said (a ++ (z ∷ [])) ≡ signs_said a ++ sign_of z
unfolding signs_said
signs_snoc [] z = append-nil (sign_of z)
signs_snoc (x ∷ a) z = ap (λ (l : List ℕ). sign_of x ++ l) (signs_snoc a z) ∙ sym (append_assoc (sign_of x) (signs_said a) (sign_of z))

plus : (m : ℕ) → ◌≡◌ {A = ℕ} (cond (lt_z (pos (suc m)) (pos 0)) 0 1) 1
plus m = rw (le-ltb (suc m) 0 (omega arith))

-- a symbol that no pulse says is stored too, behind those that count
stored : (l : List ℕ) (n v : ℕ) (z : ℤ) → n < length l → v ≡ cond (lt_z z (pos 0)) 0 1
    → take (n + length (sign_of z)) (set l n v) ≡ take n l ++ sign_of z
stored l n v (pos zero) h e =
    ap (λ (m : ℕ). take m (set l n v)) (add-zero n) ∙ take-set-le n l n v (omega arith) ∙ sym (append-nil (take n l))
stored l n v (pos (suc m)) h e = rw add-one (take-suc-set l n v h ∙ ap {B = List ℕ} (λ (x : ℕ). take n l ++ (x ∷ [])) (e ∙ plus m))
stored l n v (negsuc m) h e = rw add-one (take-suc-set l n v h ∙ ap {B = List ℕ} (λ (x : ℕ). take n l ++ (x ∷ [])) e)

-- one more pulse
pub gathered : (l : List ℕ) (n v : ℕ) (zs : List ℤ) (k : ℕ) → n < length l → k < length zs → v ≡ cond (lt_z (get_or zs k (pos 0)) (pos 0)) 0 1
    → take n l ≡ signs_said (take k zs) → take (n + length (sign_of (get_or zs k (pos 0)))) (set l n v) ≡ signs_said (take (k + 1) zs)
gathered l n v zs k h i e g =
    let z = get_or zs k (pos 0) in
    stored l n v z h e
    ∙ ap (λ (s : List ℕ). s ++ sign_of z) g
    ∙ sym (signs_snoc (take k zs) z)
    ∙ ap signs_said (sym (take-suc zs k (pos 0) i))
    ∙ rw add-one

-- ---- written

-- a question for each symbol of a list
unfoldable pub saying : List ℕ → List ℕ → Asks (List ℤ) (List ℕ)
saying r [] = done []
saying r (v ∷ l) = ask (tab 8 r) (λ y. v) (λ w. saying r l)

signs_are : (r : List ℕ) (y zs : List ℤ) → symbols zs (each (pos 0) (sign r) (map nat_abs zs)) ≡ symbols y (saying r (signs_said zs))
unfolding each sign symbols signs_said saying
signs_are r y [] = refl
signs_are r y (pos zero ∷ zs) = each_said (pos 0) (sign r) (pos 0) zs 0 (map nat_abs zs) ∙ signs_are r y zs
signs_are r y (pos (suc m) ∷ zs) =
    each_said (pos 0) (sign r) (pos (suc m)) zs (suc m) (map nat_abs zs)
    ∙ ap₂ {C = List Sym} (λ (v : ℕ) (l : List Sym). record { model = tab 8 r; value = v } ∷ l) (plus m) (signs_are r y zs)
signs_are r y (negsuc m ∷ zs) =
    each_said (pos 0) (sign r) (negsuc m) zs (suc m) (map nat_abs zs)
    ∙ ap {B = List Sym} (λ (l : List Sym). record { model = tab 8 r; value = 0 } ∷ l) (signs_are r y zs)

-- k symbols are written
module _ (r : List ℕ) (zs : List ℤ) (o : Out) where
  abbrev pub SignsTo : Out → ℕ → Type 0
  SignsTo p k = Midway o zs (each (pos 0) (sign r) (map nat_abs zs)) (16 * k) p zs (saying r (drop k (signs_said zs)))

  pub signs_start : Core o → SignsTo o 0
  signs_start h =
      record { is = ap (λ (s : List Sym). written_all o s) (signs_are r zs zs); core = h; least = omega arith; most = omega arith }

  pub sign_more : {p q : Out} {v : ℕ} (k : ℕ) → SignsTo p k → k < length (signs_said zs) → v ≡ get_or (signs_said zs) k 0
      → Wrote p (record { model = tab 8 r; value = v }) q → SignsTo q (k + 1)
  unfolding saying
  sign_more {p = p} k g l e w =
      rw add-one
      (midway_asked
      (subst (λ (s : List ℕ). Midway o zs (each (pos 0) (sign r) (map nat_abs zs)) (16 * k) p zs (saying r s)) (drop-cons (signs_said zs) k 0 l) g)
      refl e w (omega arith))

  pub signs_end : {p : Out} (k : ℕ) → SignsTo p k → length (signs_said zs) ≤ k → Told o zs (each (pos 0) (sign r) (map nat_abs zs)) (16 * k) p
  unfolding saying symbols
  signs_end k g l = midway_end g (rw (drop_of_length-le (signs_said zs) {i = k} l))
