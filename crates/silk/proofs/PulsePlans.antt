-- Counts and shifts of a frame's blocks in two arrays, as code keeps them. Assumes nothing.
use Prim.Native.Nat.{ℕ, zero, suc, ◌+◌, ◌-◌, ◌*◌, ◌≤◌, ◌<◌}
use mathlib.Core.Path.{◌≡◌, refl, sym, ap, ap₂, subst, ◌∙◌}
use mathlib.Core.Bool.{Bool, true, ◌&&◌, and-true, and_assoc}
use mathlib.Core.List.{List, [], ◌∷◌, ◌++◌, map}
use native.Mathlib.Nat.{le_of_suc-le-suc, not-suc-le-zero}
use native.Mathlib.Omega.{arith}
use borrow.Author.Tests.{leb-true}
use lib.Dec.{leb}
use lib.IntN.{ℤ}
use lib.ListN.{length, get_or, take, drop, set, length-append}
use lib.Seq.{drop-cons, drop-drop}
use Rattle.deciding.proofs.Both.{and_both}
use Rattle.lists.specs.Every.{every}
use Rattle.lists.specs.AtMost.{AtMost}
use Rattle.lists.proofs.AtMostLaws.{at_most_set}
use Rattle.silk.specs.PulseSyntax.{Block, head_of, tail_of, total, rows16}
use Rattle.silk.specs.Inner.Pulses.{block_at, blocks_from, Suits, AllSuit, least_shift, Shift, Suited, Planned}
use Rattle.silk.proofs.PulseSteps.{blocks_stored}
use Rattle.silk.proofs.PulseBlocks.{rows_counted}
use Rattle.silk.proofs.PulseRounds.{block_of}
use Rattle.silk.specs.PulseWriting.{shifted_by, block_by, blocks_by}

-- ---- one block after the other

pub rows_snoc : {A : Type 0} (n : ℕ) (v : List A) → rows16 (suc n) v ≡ rows16 n v ++ (take 16 (drop (n * 16) v) ∷ [])
unfolding rows16
rows_snoc zero v = refl
rows_snoc {A = A} (suc n) v =
    let e : 16 + n * 16 ≡ suc n * 16 = omega arith in
    ap (λ (l : List (List A)). take 16 v ∷ l) (rows_snoc n (drop 16 v))
    ∙ ap {B = List (List A)} (λ (d : List A). (take 16 v ∷ rows16 n (drop 16 v)) ++ (take 16 d ∷ [])) (drop-drop (n * 16) 16 v ∙ ap (λ (m : ℕ). drop m v) e)

every_snoc : {A : Type 0} (f : A → Bool) (xs : List A) (x : A) → every f (xs ++ (x ∷ [])) ≡ every f xs && f x
every_snoc f [] x = and-true (f x)
every_snoc f (y ∷ xs) x = ap (λ (t : Bool). f y && t) (every_snoc f xs x) ∙ sym (and_assoc (f y) (every f xs) (f x))

module _ (f : List ℤ → ℕ) where
  suit_snoc : (ps : List (List ℤ)) (p : List ℤ) → AllSuit (map f ps) ps → Suits (f p) p → AllSuit (map f (ps ++ (p ∷ []))) (ps ++ (p ∷ []))
  suit_snoc [] p h k = (k, tt)
  suit_snoc (q ∷ ps) p h k = (h.0, suit_snoc ps p h.1 k)

  blocks_snoc : (ps : List (List ℤ)) (p : List ℤ) → blocks_by (map f (ps ++ (p ∷ []))) (ps ++ (p ∷ [])) ≡ blocks_by (map f ps) ps ++ (block_by (f p) p ∷ [])
  unfolding blocks_by
  blocks_snoc [] p = refl
  blocks_snoc (q ∷ ps) p = ap {B = List Block} (λ (l : List Block). block_by (f q) q ∷ l) (blocks_snoc ps p)

pub planned_start : (c l : List ℕ) → AtMost 16 c → AtMost 10 l → Planned [] c l true
unfolding blocks_from blocks_by
planned_start c l h k = record { is = refl; suited = λ e. record { suits = tt; blocks = refl; most = h; few = k } }

pub planned_next : (ps : List (List ℤ)) (p : List ℤ) (c l : List ℕ) (t : Bool) (i count shift : ℕ) → Planned ps c l t
    → Shift p count shift → length p ≡ 16 → length ps ≡ i → i < length c → i < length l → Planned (ps ++ (p ∷ [])) (set c i count) (set l i shift) (t && leb shift 10)
planned_next ps p c l t i count shift g h s e a b =
    record {
      is = rw (every_snoc (λ q. leb (least_shift q) 10) ps p, g.is, h.is);
      suited = λ q.
          let r = and_both t (leb shift 10) q in
          let u = g.suited r.0 in
          let m : shift ≤ 10 = leb-true _ _ r.1 in
          record {
            suits = suit_snoc least_shift ps p u.suits (suits m);
            blocks = ap (λ (n : ℕ). blocks_from (set c i count) (set l i shift) 0 n) counted
                ∙ blocks_stored c l i count shift a b
                ∙ ap₂ (λ (x : List Block) (y : Block). x ++ (y ∷ [])) (ap (λ (n : ℕ). blocks_from c l 0 n) (sym e) ∙ u.blocks) (block m)
                ∙ sym (blocks_snoc least_shift ps p);
            most = at_most_set 16 c i count u.most h.most;
            few = at_most_set 10 l i shift u.few m;
          };
    }
  where
    counted : length (ps ++ (p ∷ [])) ≡ i + 1
    counted = length-append ps (p ∷ []) ∙ omega arith

    block : shift ≤ 10 → record { count = count; lows = shift } ≡ block_by (least_shift p) p
    block m = rw (h.counted m, h.is)

    suits : shift ≤ 10 → Suits (least_shift p) p
    suits m = subst (λ (j : ℕ). Suits j p) h.is (record { size = s; few = m; most = omega (arith, h.counted m, h.most) })

-- ---- a plan, block by block

module _ (c l : List ℕ) where
  -- block k of those that stand in the arrays from i on
  block_at_lem : (i : ℕ) (js : List ℕ) (ps : List (List ℤ)) → AllSuit js ps → blocks_from c l i (length ps) ≡ blocks_by js ps → (k : ℕ) → k < length ps
      → get_or c (i + k) 0 ≡ total (shifted_by (get_or l (i + k) 0) (get_or ps k []))
  unfolding blocks_from blocks_by
  block_at_lem i [] [] a e k h = absurd (not-suc-le-zero h)
  block_at_lem i [] (p ∷ ps) a e k h = absurd a
  block_at_lem i (j ∷ js) [] a e k h = absurd a
  block_at_lem i (j ∷ js) (p ∷ ps) a e zero h =
      let q : i + 0 ≡ i = omega arith in
      let f : block_at c l i ≡ block_by j p = ap (head_of (block_by j p)) e in
      let n : get_or l i 0 ≡ j = ap (λ (b : Block). b.lows) f in
      rw (q, n) (ap (λ (b : Block). b.count) f)
  block_at_lem i (j ∷ js) (p ∷ ps) a e (suc k) h =
      let q : i + suc k ≡ suc i + k = omega arith in
      rw q (block_at_lem (suc i) js ps a.1 (ap tail_of e) k (le_of_suc-le-suc h))

  -- the shifts are the numbers of low bits
  shifts_at : (i : ℕ) (js : List ℕ) (ps : List (List ℤ)) → AllSuit js ps → blocks_from c l i (length ps) ≡ blocks_by js ps → i + length ps ≤ length l
      → js ≡ take (length ps) (drop i l)
  unfolding blocks_from blocks_by
  shifts_at i [] [] a e h = refl
  shifts_at i [] (p ∷ ps) a e h = absurd a
  shifts_at i (j ∷ js) [] a e h = absurd a
  shifts_at i (j ∷ js) (p ∷ ps) a e h =
      let n : get_or l i 0 ≡ j = ap (λ (bs : List Block). (head_of (block_by j p) bs).lows) e in
      rw (drop-cons l i 0 (omega arith))
      (ap₂ {C = List ℕ} (λ (x : ℕ) (xs : List ℕ). x ∷ xs) (sym n) (shifts_at (suc i) js ps a.1 (ap tail_of e) (omega arith)))

row_at : {A : Type 0} (n : ℕ) (v : List A) (k : ℕ) → k < n → get_or (rows16 n v) k [] ≡ take 16 (drop (k * 16) v)
unfolding rows16
row_at zero v k h = absurd (not-suc-le-zero h)
row_at (suc n) v zero h = refl
row_at (suc n) v (suc k) h =
    let e : 16 + k * 16 ≡ suc k * 16 = omega arith in
    row_at n (drop 16 v) k (le_of_suc-le-suc h) ∙ ap (take 16) (drop-drop (k * 16) 16 v ∙ ap (λ (m : ℕ). drop m v) e)

-- the count of a block is the total of its shifted magnitudes
pub suited_at : (js : List ℕ) (c l : List ℕ) (n : ℕ) (v : List ℤ) → Suited js (rows16 n v) c l → (i : ℕ) → i < n
    → get_or c i 0 ≡ total (shifted_by (get_or l i 0) (block_of v i))
suited_at js c l n v s i h =
    let e : 0 + i ≡ i = omega arith in
    let f : i * 16 + 16 - i * 16 ≡ 16 = omega arith in
    rw f (rw (e, row_at n v i h) at (block_at_lem c l 0 js (rows16 n v) s.suits s.blocks i (omega (arith, rows_counted n v))))

pub suited_shifts : (js : List ℕ) (c l : List ℕ) (n : ℕ) (v : List ℤ) → Suited js (rows16 n v) c l → n ≤ length l → js ≡ take n l
suited_shifts js c l n v s h =
    shifts_at c l 0 js (rows16 n v) s.suits s.blocks (omega (arith, rows_counted n v)) ∙ ap (λ (m : ℕ). take m l) (rows_counted n v)
