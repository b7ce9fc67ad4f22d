-- What decoding leans on of the two books, each by one computation over the whole book. Assumes nothing.
use Prim.Native.Nat.{ℕ, suc, ◌+◌, ◌*◌, ◌/◌, ◌≤◌, ◌<◌}
use mathlib.Core.Path.{◌≡◌, refl, sym, subst⁻¹, ◌∙◌}
use mathlib.Core.Bool.{Bool, true, ◌&&◌}
use mathlib.Core.List.{List, [], map}
use native.Mathlib.Omega.{arith}
use borrow.Author.Tests.{leb-true, eq-eqb, ne_eqb}
use lib.Dec.{eqb, leb}
use lib.IntN.{ℤ, pos}
use lib.ListN.{length, get_or, length-map}
use lib.Signed.{le_z}
use Rattle.ints.proofs.Order.{le_z_true}
use Rattle.ints.specs.Parts.{up}
use Rattle.deciding.proofs.Both.{and_both}
use Rattle.deciding.proofs.Choice.{chosen}
use Rattle.lists.specs.Every.{every}
use Rattle.lists.proofs.EveryLaws.{every_at}
use Rattle.sheet.specs.Books.{Book, narrow_book, wide_book}
use Rattle.sheet.proofs.BooksLaws.{Shaped, narrow_shaped, wide_shaped}
use Rattle.spectrum.proofs.PlaceLaws.{length_residuals, length_placed}
use Rattle.spectrum.specs.Calls.{book_of}
use Rattle.spectrum.specs.Gaps.{good_gaps}
use Rattle.spectrum.specs.Places.{places}
use Rattle.spectrum.specs.Residuals.{residuals, predictor_in}
use Rattle.spectrum.specs.Inner.{◌≼◌}
use Rattle.spectrum.specs.Values.{at, total}

-- a step of at most 11,796, weights above 0, and the rule of gap sets, the last gap 2 or more
pub record Sized (b : Book) : Type 0 where
  pub small : b.step ≤ 11796
  pub heavy : (v i : ℕ) → v < length b.weights → i < length (get_or b.weights v []) → 1 ≤ get_or (get_or b.weights v []) i 0
  pub gaps : good_gaps b.order (map pos b.gaps) ≡ true
  pub last : 2 ≤ up (at (map pos b.gaps) b.order)

abbrev sizes : Book → Bool
sizes b =
    leb b.step 11796 &&
    (every (every (leb 1)) b.weights && (good_gaps b.order (map pos b.gaps) && leb 2 (up (at (map pos b.gaps) b.order))))

sized : (b : Book) → sizes b ≡ true → Sized b
sized b e =
    let ws = every (every (leb 1)) b.weights in
    let gs = good_gaps b.order (map pos b.gaps) in
    let z = leb 2 (up (at (map pos b.gaps) b.order)) in
    let p = and_both (leb b.step 11796) (ws && (gs && z)) e in
    let q = and_both ws (gs && z) p.1 in
    let t = and_both gs z q.1 in
    record {
      small = leb-true b.step 11796 p.0;
      heavy = λ v i h k.
          leb-true 1 (get_or (get_or b.weights v []) i 0)
          (every_at (leb 1) (get_or b.weights v []) 0 (every_at (every (leb 1)) b.weights [] q.0 v h) i k);
      gaps = t.0;
      last = leb-true 2 (up (at (map pos b.gaps) b.order)) t.1;
    }

pub narrow_sized : Sized narrow_book
unfolding narrow_book good_gaps total
narrow_sized = sized narrow_book refl

pub wide_sized : Sized wide_book
unfolding wide_book good_gaps total
wide_sized = sized wide_book refl

-- ---- what holds of either book

pub record Usable (b : Book) : Type 0 where
  pub shaped : Shaped b.order b
  pub sized : Sized b
  pub some : 2 ≤ b.order
  pub few : b.order ≤ 16
  pub even : b.order ≤ 2 * (b.order / 2)

usable : (n : ℕ) (b : Book) → Shaped n b → Sized b → 2 ≤ n → n ≤ 16 → n ≤ 2 * (n / 2) → Usable b
usable n b s z h k t =
    record {
      shaped = subst⁻¹ (λ (m : ℕ). Shaped m b) s.order s;
      sized = z;
      some = omega (arith, s.order);
      few = omega (arith, s.order);
      even = omega (arith, s.order);
    }

pub narrow_usable : Usable narrow_book
narrow_usable = usable 10 narrow_book narrow_shaped narrow_sized (omega arith) (omega arith) (omega arith)

pub wide_usable : Usable wide_book
wide_usable = usable 16 wide_book wide_shaped wide_sized (omega arith) (omega arith) (omega arith)

pub book_usable : (khz : ℕ) → Usable (book_of khz)
unfolding book_of
book_usable khz = chosen Usable (eqb khz 16) (λ e. wide_usable) (λ e. narrow_usable)

pub places_long : (b : Book) → Usable b → (v : ℕ) (xs : List ℤ) → v < 32 → length xs ≡ b.order → length (places b v xs) ≡ b.order
unfolding places
places_long b u v xs h l =
    let f = predictor_in (get_or b.selectors v []) b.predictors in
    let r = length_residuals b.step f 0 xs in
    length_placed (get_or b.vectors v []) (get_or b.weights v []) (residuals b.step f 0 xs)
    (u.shaped.vectors.width v h ∙ sym (r ∙ l)) (u.shaped.weights.width v h ∙ sym (r ∙ l))
    ∙ r ∙ l

pub gaps_long : (b : Book) → Usable b → length (map pos b.gaps) ≡ suc b.order
gaps_long b u = length-map b.gaps pos ∙ u.shaped.gaps ∙ (let e : b.order + 1 ≡ suc b.order = omega arith in e)

-- ---- distances

-- the first gap is a or more, each gap b or more, the last d or more
pub record Spaced (a b d : ℕ) (k : Book) : Type 0 where
  pub first : pos a ≼ at (map pos k.gaps) 0
  pub each : (i : ℕ) → i < length (map pos k.gaps) → pos b ≼ at (map pos k.gaps) i
  pub last : pos d ≼ at (map pos k.gaps) k.order

abbrev spaces : ℕ → ℕ → ℕ → Book → Bool
spaces a b d k =
    let g = map pos k.gaps in le_z (pos a) (at g 0) && (le_z (pos d) (at g k.order) && every (le_z (pos b)) g)

spaced : (a b d : ℕ) (k : Book) → spaces a b d k ≡ true → Spaced a b d k
spaced a b d k e =
    let g = map pos k.gaps in
    let p = and_both (le_z (pos a) (at g 0)) (le_z (pos d) (at g k.order) && every (le_z (pos b)) g) e in
    let q = and_both (le_z (pos d) (at g k.order)) (every (le_z (pos b)) g) p.1 in
    record {
      first = le_z_true (pos a) (at g 0) p.0;
      each = λ i h. le_z_true (pos b) (at g i) (every_at (le_z (pos b)) g (pos 0) q.1 i h);
      last = le_z_true (pos d) (at g k.order) q.0;
    }

pub narrow_spaced : Spaced 250 3 461 narrow_book
unfolding narrow_book
narrow_spaced = spaced 250 3 461 narrow_book refl

pub wide_spaced : Spaced 100 3 347 wide_book
unfolding wide_book
wide_spaced = spaced 100 3 347 wide_book refl

pub narrow_of : (khz : ℕ) → (khz ≡ 16 → ⊥) → book_of khz ≡ narrow_book
unfolding book_of
narrow_of khz h = rw (ne_eqb khz 16 h) refl

pub wide_of : (khz : ℕ) → khz ≡ 16 → book_of khz ≡ wide_book
unfolding book_of
wide_of khz h = rw (eq-eqb khz 16 h) refl
