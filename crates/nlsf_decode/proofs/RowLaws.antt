-- The rows that a book has for one vector: what placing asks, and that placing by them is placing by the book. Assumes nothing.
use Prim.Native.Nat.{ℕ, suc, ◌*◌, ◌/◌, ◌%◌, ◌≤◌, ◌<◌}
use mathlib.Core.Path.{◌≡◌, refl, sym, ap, ap₂, subst⁻¹, ◌∙◌}
use mathlib.Core.List.{List, [], map}
use native.Mathlib.Omega.{arith}
use lib.Dec.{eqb}
use lib.IntN.{ℤ, pos, negsuc, nat_abs}
use lib.ListN.{length, get_or, take, drop, length-drop}
use lib.Seq.{length-take-le}
use Rattle.deciding.proofs.Choice.{chosen}
use Rattle.ints.specs.Parts.{up, down}
use Rattle.sheet.specs.Books.{Book, narrow_book, wide_book}
use Rattle.sheet.specs.Statement.{Rising}
use Rattle.sheet.specs.Weights.{rises}
use Rattle.sheet.proofs.BooksLaws.{narrow_shaped, wide_shaped}
use Rattle.sheet.proofs.WeightsLaws.{rises_at}
use Rattle.tables.specs.Inner.{predictor_row}
use Rattle.tables.proofs.PredictorRow.{predictor_row_length, predictor_row_at}
use Rattle.spectrum.proofs.BookLaws.{Usable, gaps_long, narrow_of, wide_of}
use Rattle.spectrum.proofs.CallLaws.{Accepted}
use Rattle.spectrum.proofs.PlaceLaws.{residuals_alike}
use Rattle.spectrum.proofs.Results.{ruled}
use Rattle.spectrum.specs.Calls.{book_of, decoded}
use Rattle.spectrum.specs.Gaps.{Ruled}
use Rattle.spectrum.specs.Places.{placed_all, places}
use Rattle.spectrum.specs.Residuals.{residuals, list_of, predictor_in}
use Rattle.spectrum.specs.Stabilising.{Stable, stabilise}
use Rattle.spectrum.specs.Values.{at, total, Within}
use Rattle.nlsf_stabilize.specs.Inner.{Ready}
use Rattle.nlsf_places.specs.Inner.{Rows, predictor_of, predictor_at, predictor_by, residuals_by, places_by, PlacesOk}
use Rattle.nlsf_decode.specs.Inner.{Indexed, spectrum_of}

pub record RowsOf (b : Book) (v : ℕ) (t : Rows) : Type 0 where
  pub step : t.step ≡ b.step
  pub selectors : t.selectors ≡ get_or b.selectors v []
  pub lists : t.lists ≡ predictor_row b
  pub values : t.values ≡ get_or b.vectors v []
  pub weights : t.weights ≡ get_or b.weights v []

list_below : (e i : ℕ) → list_of e i < 2
list_below e i = chosen (λ (n : ℕ). n < 2) (eqb (i % 2) 0) (λ g. omega arith) (λ g. omega arith)

module _ (b : Book) (v : ℕ) (t : Rows) (r : RowsOf b v t) (u : Usable b) where
  some : 1 ≤ b.order
  some = omega (arith, u.some)

  lists_long : length (predictor_row b) ≡ 2 * b.order
  lists_long = predictor_row_length b b.order u.shaped some

  -- of each place, the predictor in the row is the book's
  predictors_by : (i : ℕ) → i < b.order → predictor_by t i ≡ predictor_in (get_or b.selectors v []) b.predictors i
  unfolding predictor_of predictor_in
  predictors_by i h =
      let l = list_of (get_or (get_or b.selectors v []) (i / 2) 0) i in
      ap₂ (λ (e : List ℕ) (p : List ℕ). predictor_at e p i) r.selectors r.lists
      ∙ predictor_row_at b b.order u.shaped some l i (list_below (get_or (get_or b.selectors v []) (i / 2) 0) i) h

  places_by_lem : (xs : List ℤ) → length xs ≡ b.order → places_by t xs ≡ places b v xs
  unfolding places
  places_by_lem xs h =
      ap₂ (λ (l : List ℕ) (m : List ℕ). placed_all l m (residuals_by t xs)) r.values r.weights
      ∙ ap (λ (n : ℕ). placed_all (get_or b.vectors v []) (get_or b.weights v []) (residuals n (predictor_by t) 0 xs)) r.step
      ∙ ap (placed_all (get_or b.vectors v []) (get_or b.weights v []))
      (residuals_alike b.step (predictor_by t) (predictor_in (get_or b.selectors v []) b.predictors) b.order predictors_by 0 xs (omega arith))

  places_ok : Rising b → (w xs : List ℤ) → Indexed b.order w v xs → PlacesOk t w xs
  places_ok g w xs i =
      let s = u.shaped in
      let ws : length (get_or b.weights v []) ≡ b.order = s.weights.width v i.row in
      record {
        some = omega (arith, i.long, u.some);
        few = omega (arith, i.long, u.few);
        indices = i.many ∙ sym i.long;
        tens = i.tens;
        small = omega (arith, r.step, u.sized.small);
        pairs = omega (arith, i.long, u.even, ap length r.selectors, s.selectors.width v i.row);
        lists = omega (arith, ap length r.lists, lists_long, i.long);
        book = ap length r.values ∙ s.vectors.width v i.row ∙ sym i.long;
        rising = ap rises r.values ∙ rises_at u.shaped g v i.row;
        weighed = ap length r.weights ∙ ws ∙ sym i.long;
        heavy = λ k h.
            subst⁻¹ (λ (l : List ℕ). 1 ≤ get_or l k 0) r.weights
            (u.sized.heavy v k (omega (arith, i.row, s.weights.count)) (omega (arith, ws, i.long)));
      }

-- ---- what the stabiliser is handed: gaps g and places p. It is what stabilising asks, and what the stabiliser leaves of it is
-- vector v of the book b, moved by the indices xs

pub record Handed (b : Book) (v : ℕ) (xs g p : List ℤ) : Type 0 where
  pub asked : Ready g p
  pub sum : total g ≡ total (map pos b.gaps)
  pub answer : {s : Stable} → s ≡ stabilise g p → s ≡ spectrum_of b v xs

module _ {b : Book} {n v : ℕ} {t : Rows} {w xs : List ℤ} (u : Usable b) (o : b.order ≡ n) (r : RowsOf b v t) (i : Indexed n w v xs) where
  pub places_asked : Rising b → PlacesOk t w xs
  places_asked g = places_ok b v t r u g w xs (subst⁻¹ (λ (m : ℕ). Indexed m w v xs) o i)

  pub handed : {g p : List ℤ} → g ≡ map pos b.gaps → p ≡ places_by t xs → length p ≡ length w → Handed b v xs g p
  handed {g} {p} e f l =
      let k = gaps_long b u in
      let z : length g ≡ suc b.order = ap length e ∙ k in
      record {
        asked =
            record {
              rule = subst⁻¹ Ruled e (ruled b.order (map pos b.gaps) k u.sized.gaps);
              long = omega (arith, l, i.long);
              some = omega (arith, l, i.long, u.some);
              few = omega (arith, l, i.long, u.few);
            };
        sum = ap total e;
        answer = λ h. h ∙ ap₂ stabilise e (f ∙ places_by_lem b v t r u xs (i.many ∙ sym o));
      }

-- ---- the book of a rate, and its order n

pub record Under (khz : ℕ) (b : Book) (n : ℕ) : Type 0 where
  pub book : book_of khz ≡ b
  pub order : b.order ≡ n
  pub few : n ≤ 16

pub wide_under : (khz : ℕ) → khz ≡ 16 → Under khz wide_book 16
wide_under khz e = record { book = wide_of khz e; order = wide_shaped.order; few = omega arith }

pub narrow_under : (khz : ℕ) → (khz ≡ 16 → ⊥) → Under khz narrow_book 10
narrow_under khz e = record { book = narrow_of khz e; order = narrow_shaped.order; few = omega arith }

pub order_is : {khz n : ℕ} {b : Book} → Under khz b n → n ≡ (book_of khz).order
order_is u = sym (ap (λ (c : Book). c.order) u.book ∙ u.order)

-- a first index of 0 or more, as the machine casts it
natural_is : (z : ℤ) → down z ≡ 0 → nat_abs z ≡ up z
natural_is (pos n) d = refl
natural_is (negsuc n) d = absurd (omega arith)

-- an accepted call's indices
module _ {khz n : ℕ} {b : Book} (u : Under khz b n) (index : List ℤ) where
  pub indexed : (v : List ℤ) → length index ≡ 17 → Accepted v index khz → Indexed n v (nat_abs (at index 0)) (take n (drop 1 index))
  indexed v l a =
      let o = order_is u in
      let d : length (drop 1 index) ≡ 16 = omega (arith, length-drop 1 index) in
      record {
        long = a.long ∙ sym o;
        many = length-take-le n (drop 1 index) (omega (arith, u.few));
        tens = subst⁻¹ (λ (m : ℕ). Within 10 10 (take m (drop 1 index))) o a.tens;
        row = omega (arith, natural_is (at index 0) a.first0, a.first);
      }

  pub decoded_as : down (at index 0) ≡ 0 → spectrum_of b (nat_abs (at index 0)) (take n (drop 1 index)) ≡ decoded (book_of khz) index
  unfolding decoded
  decoded_as d =
      ap₂ (λ (m k : ℕ). stabilise (map pos b.gaps) (places b m (take k (drop 1 index)))) (natural_is (at index 0) d)
      (sym u.order)
      ∙ ap (λ (c : Book). stabilise (map pos c.gaps) (places c (up (at index 0)) (take c.order (drop 1 index))))
      (sym u.book)
