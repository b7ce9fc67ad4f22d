-- Every gap, always: the theorems of `specs/Statement/Always`. Assumes nothing.
use Prim.Native.Nat.{ℕ, suc, ◌≤◌}
use mathlib.Core.Path.{◌≡◌, refl, sym, ap, subst, subst⁻¹, ◌∙◌}
use mathlib.Core.Bool.{true, ◌&&◌}
use mathlib.Core.List.{List, map}
use native.Mathlib.Omega.{arith}
use borrow.Author.Tests.{eqb-true}
use lib.Dec.{eqb}
use lib.IntN.{ℤ, pos, ◌+ℤ◌}
use lib.Signed.{le_z, ◌≤ℤ◌}
use lib.ListN.{length}
use Rattle.ints.proofs.Order.{le_z_true, parts_le}
use Rattle.ints.proofs.Sums.{sum_parts}
use Rattle.deciding.proofs.Both.{and_both, both_and}
use Rattle.deciding.proofs.Choice.{chosen}
use Rattle.lists.proofs.EveryLaws.{every_at, at_every}
use Rattle.lists.specs.Every.{every}
use Rattle.sheet.specs.Books.{Book, narrow_book, wide_book}
use Rattle.spectrum.proofs.BookLaws.{Usable, narrow_usable, wide_usable, gaps_long}
use Rattle.spectrum.proofs.BookLaws.{Spaced, narrow_spaced, wide_spaced, narrow_of, wide_of}
use Rattle.spectrum.proofs.CallLaws.{lengths_are, lengths_ok_lem, stabilise_accepted, stabilise_accepts, stabilise_answers}
use Rattle.spectrum.proofs.Extremes.{le_le_z, le_parts}
use Rattle.spectrum.proofs.Promises.{answers, long, some, rule, handed_long, decode_stabilises}
use Rattle.spectrum.proofs.Results.{still, moved_not, as_long, every_gap, twice}
use Rattle.spectrum.specs.Calls.{Called, called, answered, lengths_ok, stabilise_refusal, stabilise_call}
use Rattle.spectrum.specs.Calls.{book_of, decode_refusal, decoded, decode_call}
use Rattle.spectrum.specs.Gaps.{good_gaps}
use Rattle.spectrum.specs.Inner.{◌≼◌}
use Rattle.spectrum.specs.Stabilising.{Stable, stabilise}
use Rattle.spectrum.specs.Statement.{Stabilises, Decodes}
use Rattle.spectrum.specs.Statement.Always.{EveryGap, Takes, Stabilised, StabiliseTakes, StabiliseAlways, DecodeAlways}
use Rattle.spectrum.specs.Statement.Always.{Apart, GapsApart, DecodeApart}
use Rattle.spectrum.specs.Values.{at, top, total}
use Rattle.spectrum.specs.declared.Spectrum.{Spectrum}

-- ---- which calls are accepted

answered_refusal : (n : ℕ) (v : List ℤ) (s : Stable) → (answered n v s).answer.refusal ≡ n
unfolding answered
answered_refusal n v s = chosen (λ (c : Called). c.answer.refusal ≡ n) (eqb n 0) (λ e. sym (eqb-true n 0 e)) (λ e. refl)

stabilise_refusal_lem : (v g : List ℤ) → (stabilise_call v g).answer.refusal ≡ stabilise_refusal v g
unfolding stabilise_call
stabilise_refusal_lem v g = answered_refusal (stabilise_refusal v g) v (stabilise g v)

decode_refusal_lem : (v : List ℤ) (s : Spectrum) (khz : ℕ) → (decode_call v s khz).answer.refusal ≡ decode_refusal v s.index khz
unfolding decode_call
decode_refusal_lem v s khz = answered_refusal (decode_refusal v s.index khz) v (decoded (book_of khz) s.index)

-- the rule's test and its facts
takes_good : (v g : List ℤ) → Takes v g → good_gaps (length v) g ≡ true
unfolding good_gaps
takes_good v g t =
    both_and (every (le_z (pos 0)) g) (le_z (pos 1) (at g (length v)) && le_z (total g) top)
    (at_every (le_z (pos 0)) g (pos 0) (λ i h. le_le_z (pos 0) (at g i) (le_parts (t.natural i (omega (arith, t.one_more))))))
    (both_and (le_z (pos 1) (at g (length v))) (le_z (total g) top) (le_le_z (pos 1) (at g (length v)) (le_parts t.end))
    (le_le_z (total g) top (le_parts t.together)))

good_takes : (v g : List ℤ) → Stabilises v g → Takes v g
unfolding good_gaps
good_takes v g e =
    let p = stabilise_accepted v g e in
    let l = lengths_are v g p.0 in
    let b = and_both (every (le_z (pos 0)) g) (le_z (pos 1) (at g (length v)) && le_z (total g) top) p.1 in
    let c = and_both (le_z (pos 1) (at g (length v))) (le_z (total g) top) b.1 in
    record {
      some = l.least;
      few = l.most;
      one_more = long v g e;
      natural = λ i h.
          parts_le (pos 0) (at g i)
          (le_z_true (pos 0) (at g i) (every_at (le_z (pos 0)) g (pos 0) b.0 i (omega (arith, l.one_more))));
      end = parts_le (pos 1) (at g (length v)) (le_z_true (pos 1) (at g (length v)) c.0);
      together = parts_le (total g) top (le_z_true (total g) top c.1);
    }

pub stabilise_takes : StabiliseTakes
stabilise_takes v g = (
  λ t.
      stabilise_refusal_lem v g
      ∙ stabilise_accepts v g (lengths_ok_lem v g t.some t.few (omega (arith, t.one_more))) (takes_good v g t),
  λ e. good_takes v g (sym (stabilise_refusal_lem v g) ∙ e),
)

-- ---- what an accepted call leaves

-- the refusal looks at the vector's length alone
same_refusal : (v w g : List ℤ) → length v ≡ length w → stabilise_refusal v g ≡ stabilise_refusal w g
unfolding stabilise_refusal lengths_ok
same_refusal v w g e = rw e refl

stabilised : (v g : List ℤ) → Stabilises v g → Stabilised v g (stabilise_call v g)
stabilised v g e =
    let l = long v g e in
    let r = rule v g e in
    let u = (stabilise g v).vector in
    let again : stabilise_call u g ≡ called u 0 0 =
    sym (stabilise_answers u g u 0 (same_refusal u v g (as_long g v l r) ∙ e) (sym (twice g v l r))) in
    subst⁻¹ (Stabilised v g) (answers v g e)
    (record {
      long = as_long g v l r;
      kept = every_gap g v l r (some v g e);
      stays = λ k. ap (λ (s : Stable). called s.vector 0 s.moves) (still g v l r (some v g e) k);
      stayed = moved_not g v l r (some v g e);
      again = again;
    })

pub stabilise_always : StabiliseAlways
stabilise_always v g c e h =
    let r : Stabilises v g = sym (stabilise_refusal_lem v g) ∙ ap (λ (d : Called). d.answer.refusal) (sym e) ∙ h in
    subst⁻¹ (Stabilised v g) e (stabilised v g r)

accepted : (v : List ℤ) (s : Spectrum) (khz : ℕ) (c : Called) → c ≡ decode_call v s khz → c.answer.refusal ≡ 0 → Decodes v s khz
accepted v s khz c e h = sym (decode_refusal_lem v s khz) ∙ ap (λ (d : Called). d.answer.refusal) (sym e) ∙ h

pub decode_always : DecodeAlways
decode_always v s khz c w e h =
    stabilise_always _ _ c (e ∙ decode_stabilises v s khz w (accepted v s khz c e h)) h

-- ---- distances

-- a distance at least y, so at least n
at_least : (n : ℕ) (x y z : ℤ) → pos n ≼ y → (x +ℤ y) ≤ℤ z → (x +ℤ pos n) ≤ℤ z
at_least n x y z h l =
    let s : (x +ℤ y) ≼ z = le_parts l in parts_le (x +ℤ pos n) z (omega (arith, sum_parts x y, sum_parts x (pos n)))

pub gaps_apart : GapsApart
gaps_apart a b d g v p q r k =
    record {
      first = let y : at g 0 ≼ at v 0 = le_parts k.first in parts_le (pos a) (at v 0) (omega (arith, le_parts p));
      between = λ i h. at_least b (at v i) (at g (suc i)) (at v (suc i)) (le_parts (q i h)) (k.between i h);
      last = λ i h. at_least d (at v i) (at g (suc i)) top (le_parts (r i h)) (k.last i h);
    }

-- smaller distances, as a caller may ask for them
pub apart_less : {a b d p q r : ℕ} {v : List ℤ} → p ≤ a → q ≤ b → r ≤ d → Apart a b d v → Apart p q r v
apart_less {a} {b} {d} {p} {q} {r} {v} l m n k =
    record {
      first = let y : pos a ≼ at v 0 = le_parts k.first in parts_le (pos p) (at v 0) (omega arith);
      between = λ i h. at_least q (at v i) (pos b) (at v (suc i)) (omega arith) (k.between i h);
      last = λ i h. at_least r (at v i) (pos d) top (omega arith) (k.last i h);
    }

-- what keeps the gaps of a book whose gaps are at least so large
book_apart : (a b d : ℕ) (k : Book) (v : List ℤ) → Usable k → Spaced a b d k → length v ≡ k.order → EveryGap (map pos k.gaps) v
    → Apart a b d v
book_apart a b d k v u s l e =
    let g = map pos k.gaps in
    gaps_apart a b d g v (parts_le (pos a) (at g 0) s.first)
    (λ i h. parts_le (pos b) (at g (suc i)) (s.each (suc i) (omega (arith, gaps_long k u))))
    (λ i h. parts_le (pos d) (at g (suc i)) (subst⁻¹ (λ (n : ℕ). pos d ≼ at g n) (h ∙ l) s.last))
    e

pub decode_apart : DecodeApart
unfolding narrow_book wide_book
decode_apart v s khz c w e h = (
  λ no. book 250 3 461 narrow_book (narrow_of khz no) narrow_usable narrow_spaced,
  λ is. book 100 3 347 wide_book (wide_of khz is) wide_usable wide_spaced,
)
  where
    book : (a b d : ℕ) (k : Book) → book_of khz ≡ k → Usable k → Spaced a b d k → (length c.vector ≡ k.order) × Apart a b d c.vector
    book a b d k f u p =
        let t = decode_always v s khz c w e h in
        let l : length c.vector ≡ k.order =
        t.long ∙ handed_long v s khz w (accepted v s khz c e h) ∙ ap (λ (b : Book). b.order) f in
        (l, book_apart a b d k c.vector u p l (subst (λ (b : Book). EveryGap (map pos b.gaps) c.vector) f t.kept))
