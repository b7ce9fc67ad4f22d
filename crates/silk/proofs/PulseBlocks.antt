-- Loops over the blocks of a frame, 16 places each, in one slice: what was read stands in front, what is still to be
-- worked on behind it, and the tree has come as far. Assumes nothing.
use Prim.Native.Nat.{ℕ, zero, suc, ◌+◌, ◌-◌, ◌*◌, ◌≤◌}
use mathlib.Core.Path.{◌≡◌, refl, sym, ap, subst, ◌∙◌}
use mathlib.Core.List.{List, [], ◌∷◌, ◌++◌, map, flatten, map-append, append_assoc, append-nil}
use native.Mathlib.Omega.{arith}
use lib.IntN.{ℤ, pos, nat_abs}
use lib.ListN.{length, take, drop, length-append, length-drop, length-map, take-append-drop}
use lib.Seq.{take_at, drop_at, length-take-le}
use Rattle.lists.specs.Inner.{All}
use Rattle.lists.proofs.All.{all_snoc}
use Rattle.lists.proofs.Parts.{middle, replaced}
use Rattle.entcode.specs.declared.Dec.{Dec}
use Rattle.entcode.specs.Inner.Reading.{Core}
use Rattle.tree.specs.Asks.{Asks, got, run}
use Rattle.tree.specs.Inner.Ran.{Ran}
use Rattle.tree.proofs.Through.{Through, before, through_start, through_next, through_end}
use Rattle.silk.specs.Inner.Pulses.{mags, mags_pos, natural, Sixteen, Turned, Held}
use Rattle.silk.specs.PulseSyntax.{rows16}

flatten_snoc : {A : Type 0} (xs : List (List A)) (x : List A) → flatten (xs ++ (x ∷ [])) ≡ flatten xs ++ x
unfolding flatten
flatten_snoc [] x = append-nil x
flatten_snoc (y ∷ xs) x = ap (λ l. y ++ l) (flatten_snoc xs x) ∙ sym (append_assoc y (flatten xs) x)

-- the results x so far of a tree of blocks, stored by f, with tail behind them and the tree next left; w bits a block
-- at the most
pub record Turning {Q R A : Type 0} (f : A → ℤ) (P : List A → Type 0) (b : List ℕ) (d₀ : Dec)
    (whole : Asks Q (List (List A))) (w : ℕ) (s : List ℤ) (d : Dec) (i : ℕ)
    (tail : List ℤ) (next : Asks R (List (List A))) : Type 0 where
  pub results : List (List A)
  pub is : s ≡ map f (flatten results) ++ tail
  pub size : length (flatten results) ≡ i * 16
  pub count : length results ≡ i
  pub all : All P results
  pub through : Through b d₀ whole (w * i) results d next

module _ {Q A : Type 0} (f : A → ℤ) (P : List A → Type 0) (b : List ℕ) (d₀ : Dec) (whole : Asks Q (List (List A))) (w : ℕ) where
  pub turning_start : (s : List ℤ) → Core b d₀ → Turning f P b d₀ whole w s d₀ 0 s whole
  unfolding flatten
  turning_start s h = record { results = []; is = refl; size = refl; count = refl; all = tt; through = through_start h }

  module _ {R : Type 0} (s : List ℤ) (d : Dec) (i : ℕ) (tail : List ℤ) (left : Asks R (List (List A))) (g : Turning f P b d₀ whole w s d i tail left)
      (m rest : List ℤ) (at : tail ≡ m ++ rest) (wide : length m ≡ 16) where
    front : length (map f (flatten g.results)) ≡ i * 16
    front = length-map (flatten g.results) f ∙ g.size

    parts : s ≡ map f (flatten g.results) ++ (m ++ rest)
    parts = g.is ∙ ap (λ (l : List ℤ). map f (flatten g.results) ++ l) at

    -- the block at hand
    pub turning_part : take (i * 16 + 16 - i * 16) (drop (i * 16) s) ≡ m
    turning_part = middle (i * 16) (i * 16 + 16) s (map f (flatten g.results)) m rest parts front (omega (arith, wide))

    -- it is worked on
    pub turning_next : {S T : Type 0} (next : Asks S (List (List A))) (t : Asks T (List A)) (x : List A) (z : Dec) (n : ℕ) (y : List ℤ)
        → y ≡ map f x → length x ≡ 16 → P x → n ≤ w → Ran b d t n x z → run b d left ≡ before (x ∷ []) (run b z next)
        → Turning f P b d₀ whole w (take (i * 16) s ++ (y ++ drop (i * 16 + 16 - i * 16) (drop (i * 16) s))) z (i + 1) rest next
    turning_next next t x z n y e l p h r q =
        record {
          results = g.results ++ (x ∷ []);
          is = replaced (i * 16) (i * 16 + 16) s (map f (flatten g.results)) m rest parts front (omega (arith, wide)) y
              ∙ rw (e, flatten_snoc g.results x, map-append f (flatten g.results) x) (sym (append_assoc (map f (flatten g.results)) (map f x) rest));
          size = ap length (flatten_snoc g.results x) ∙ length-append (flatten g.results) x ∙ omega (arith, g.size);
          count = length-append g.results (x ∷ []) ∙ omega (arith, g.count);
          all = all_snoc P g.results x g.all p;
          through = through_next next g.through r q (omega arith);
        }

  pub turning_end : {R : Type 0} (s : List ℤ) (d : Dec) (i : ℕ) (tail : List ℤ) (left : Asks R (List (List A))) → Turning f P b d₀ whole w s d i tail left
      → tail ≡ [] → run b d left ≡ got [] d → Turned f P b d₀ whole w s d i
  turning_end s d i tail left g e q =
      record {
        results = g.results;
        is = g.is ∙ ap (λ (l : List ℤ). map f (flatten g.results) ++ l) e ∙ append-nil (map f (flatten g.results));
        count = g.count;
        all = g.all;
        ran = through_end g.through q;
      }

-- ---- a slice of n blocks

pub rows_counted : {A : Type 0} (n : ℕ) (v : List A) → length (rows16 n v) ≡ n
unfolding rows16
rows_counted zero v = refl
rows_counted (suc n) v = ap suc (rows_counted n (drop 16 v))

pub rows_flat : {A : Type 0} (n : ℕ) (v : List A) → length v ≡ n * 16 → flatten (rows16 n v) ≡ v
unfolding rows16 flatten
rows_flat zero [] e = refl
rows_flat zero (x ∷ v) e = absurd (omega arith)
rows_flat (suc n) v e = ap (λ l. take 16 v ++ l) (rows_flat n (drop 16 v) (length-drop 16 v ∙ omega arith)) ∙ take-append-drop 16 v

pub rows_sixteen : {A : Type 0} (n : ℕ) (v : List A) → length v ≡ n * 16 → All Sixteen (rows16 n v)
unfolding rows16
rows_sixteen zero v e = tt
rows_sixteen (suc n) v e = (length-take-le 16 v (omega arith), rows_sixteen n (drop 16 v) (length-drop 16 v ∙ omega arith))

flat_rows : {A : Type 0} (P : List A → Type 0) (wide : (v : List A) → P v → length v ≡ 16) (vs : List (List A)) → All P vs → rows16 (length vs) (flatten vs) ≡ vs
unfolding rows16 flatten
flat_rows P wide [] h = refl
flat_rows P wide (v ∷ vs) h = rw (take_at v (flatten vs) 16 (wide v h.0), drop_at v (flatten vs) 16 (wide v h.0), flat_rows P wide vs h.1)

pub held_flat : {P : List ℕ → Type 0} {n : ℕ} {s : List ℤ} → Held P n s → s ≡ map pos (flatten (rows16 n (mags s)))
held_flat {n = n} {s = s} h = h.natural ∙ ap (map pos) (sym (rows_flat n (mags s) (length-map s nat_abs ∙ h.size)))

pub held_counted : (n : ℕ) (s : List ℤ) → length (rows16 n (mags s)) ≡ n
held_counted n s = rows_counted n (mags s)

-- what blocks of magnitudes leave is such a slice, and holds them
module _ {Q : Type 0} (P : List ℕ → Type 0) (wide : (v : List ℕ) → P v → length v ≡ 16) (b : List ℕ) (d : Dec) (whole : Asks Q (List (List ℕ))) (w : ℕ) (s : List ℤ) (z : Dec) (n : ℕ) where
  pub turned_rows : (t : Turned pos P b d whole w s z n) → rows16 n (mags s) ≡ t.results
  turned_rows t =
      ap (λ (k : ℕ). rows16 k (mags s)) (sym t.count)
      ∙ ap (λ (l : List ℤ). rows16 (length t.results) (mags l)) t.is
      ∙ ap (rows16 (length t.results)) (mags_pos (flatten t.results))
      ∙ flat_rows P wide t.results t.all

  pub turned_held : Turned pos P b d whole w s z n → length s ≡ n * 16 → Held P n s
  turned_held t l = record { natural = natural (flatten t.results) t.is; size = l; all = subst (All P) (sym (turned_rows t)) t.all }
