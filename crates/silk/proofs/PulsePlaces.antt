-- Loops over the places of a block, and over blocks of 16 places, in one slice: what was read stands in front, what
-- is still to be worked on behind it, and the tree has come as far. Assumes nothing.
use Prim.Native.Nat.{ℕ, suc, ◌+◌, ◌*◌, ◌<◌, ◌≤◌}
use mathlib.Core.Path.{◌≡◌, refl, sym, ap, subst, ◌∙◌}
use mathlib.Core.List.{List, [], ◌∷◌, ◌++◌, map, map-append, append_assoc, append-nil}
use native.Mathlib.Numerals.{add-one}
use native.Mathlib.Omega.{arith}
use lib.IntN.{ℤ, pos, nat_abs}
use lib.ListN.{length, get_or, drop, set, length-append, length-map}
use lib.Seq.{drop-cons, set_at, get_or_at}
use Rattle.entcode.specs.declared.Dec.{Dec}
use Rattle.entcode.specs.Inner.Reading.{Core}
use Rattle.tree.specs.Asks.{Asks, run}
use Rattle.tree.specs.Inner.Ran.{Ran}
use Rattle.tree.proofs.Through.{Through, through_start, through_next, through_end}
use Rattle.silk.specs.PulseSyntax.{each}
use Rattle.silk.proofs.PulseSteps.{each_next, each_end}

-- ---- the places of a block

-- a tree t for each of the magnitudes vs, of at most w bits each, whose results are stored by f
module _ {Q A : Type 0} (f : A → ℤ) (e : Q) (t : ℕ → Asks Q A) (w : ℕ) (b : List ℕ) (d₀ : Dec) (vs : List ℕ) where
  -- k places are done
  pub record Going (s : List ℤ) (d : Dec) (k : ℕ) : Type 0 where
    pub results : List A
    pub left : List ℕ
    pub is : s ≡ map f results ++ map pos left
    pub size : length results ≡ k
    pub suffix : left ≡ drop k vs
    pub count : k + length left ≡ length vs
    pub through : Through b d₀ (each e t vs) (w * k) results d (each e t left)

  pub going_start : (s : List ℤ) → s ≡ map pos vs → Core b d₀ → Going s d₀ 0
  going_start s h c = record { results = []; left = vs; is = h; size = refl; suffix = refl; count = omega arith; through = through_start c }

  -- the place at hand
  record Here (s : List ℤ) (k : ℕ) (left : List ℕ) : Type 0 where
    pub value : ℕ
    pub others : List ℕ
    pub front : left ≡ value ∷ others
    pub at : get_or s k (pos 0) ≡ pos value

  here : (s : List ℤ) (d : Dec) (k : ℕ) (g : Going s d k) → k < length vs → Here s k g.left
  here s d k g l = go g.left g.is g.count
    where
      go : (left : List ℕ) → s ≡ map f g.results ++ map pos left → k + length left ≡ length vs → Here s k left
      go [] i c = absurd (omega arith)
      go (v ∷ left) i c =
          record {
            value = v;
            others = left;
            front = refl;
            at = ap (λ (q : List ℤ). get_or q k (pos 0)) i
                ∙ get_or_at (map f g.results) (pos v) (map pos left) (pos 0) k (length-map g.results f ∙ g.size);
          }

  pub going_natural : (s : List ℤ) (d : Dec) (k : ℕ) → Going s d k → k < length vs → get_or s k (pos 0) ≡ pos (nat_abs (get_or s k (pos 0)))
  going_natural s d k g l = let h = here s d k g l in rw h.at

  -- it is the next of the magnitudes
  suffix_both : (s : List ℤ) (d : Dec) (k : ℕ) (g : Going s d k) → k < length vs → (p : Here s k g.left) → p.value ∷ p.others ≡ get_or vs k 0 ∷ drop (suc k) vs
  suffix_both s d k g l p = sym p.front ∙ g.suffix ∙ drop-cons vs k 0 l

  suffix_next : (s : List ℤ) (d : Dec) (k : ℕ) (g : Going s d k) → k < length vs → (p : Here s k g.left) → p.others ≡ drop (k + 1) vs
  suffix_next s d k g l p = let e : p.value ∷ p.others ≡ get_or vs k 0 ∷ drop (suc k) vs = suffix_both s d k g l p in rw add-one (cc)

  pub going_value : (s : List ℤ) (d : Dec) (k : ℕ) → Going s d k → k < length vs → nat_abs (get_or s k (pos 0)) ≡ get_or vs k 0
  going_value s d k g l =
      let p = here s d k g l in
      let e : p.value ∷ p.others ≡ get_or vs k 0 ∷ drop (suc k) vs = suffix_both s d k g l p in
      let f : p.value ≡ get_or vs k 0 = cc in
      rw p.at f

  -- the place at hand is worked on
  pub going_next : (s : List ℤ) (d : Dec) (k : ℕ) → Going s d k → k < length vs → (x : A) (z : Dec) (m : ℕ) → m ≤ w
      → Ran b d (t (nat_abs (get_or s k (pos 0)))) m x z → Going (set s k (f x)) z (k + 1)
  going_next s d k g l x z m h r =
      let p = here s d k g l in
      let u : Ran b d (t p.value) m x z = subst (λ (q : ℤ). Ran b d (t (nat_abs q)) m x z) p.at r in
      let i : s ≡ map f g.results ++ (pos p.value ∷ map pos p.others) = g.is ∙ ap (λ (q : List ℕ). map f g.results ++ map pos q) p.front in
      record {
        results = g.results ++ (x ∷ []);
        left = p.others;
        is = ap (λ (q : List ℤ). set q k (f x)) i
            ∙ set_at (map f g.results) (pos p.value) (map pos p.others) (f x) k (length-map g.results f ∙ g.size)
            ∙ sym (append_assoc (map f g.results) (f x ∷ []) (map pos p.others))
            ∙ ap (λ (q : List ℤ). q ++ map pos p.others) (sym (map-append f g.results (x ∷ [])));
        size = omega (arith, length-append g.results (x ∷ []), g.size);
        suffix = suffix_next s d k g l p;
        count = omega (arith, g.count, ap length p.front);
        through = through_next (each e t p.others) g.through u
            (ap (λ (q : List ℕ). run b d (each e t q)) p.front ∙ each_next b d z e t p.value p.others x u.is)
            (omega arith);
      }

  -- all places are done
  pub record Ended (s : List ℤ) (d : Dec) : Type 0 where
    pub results : List A
    pub is : s ≡ map f results
    pub ran : Ran b d₀ (each e t vs) (w * length vs) results d

  pub going_ended : (s : List ℤ) (d : Dec) (k : ℕ) → Going s d k → k ≡ length vs → Ended s d
  going_ended s d k g h = go g.left g.is g.count g.through
    where
      go : (left : List ℕ) → s ≡ map f g.results ++ map pos left → k + length left ≡ length vs
          → Through b d₀ (each e t vs) (w * k) g.results d (each e t left) → Ended s d
      go (v ∷ left) i c r = absurd (omega arith)
      go [] i c r =
          record {
            results = g.results;
            is = i ∙ append-nil (map f g.results);
            ran = subst (λ (n : ℕ). Ran b d₀ (each e t vs) (w * n) g.results d) h (through_end r (each_end b d e t));
          }
