-- Whether a packet keeps the rules, by the last frame's size: all written lengths are at most 1,275 anyway. Assumes nothing.
use Prim.Native.Nat.{ℕ, zero, suc, ◌+◌, ◌-◌, ◌*◌, ◌/◌, ◌%◌, ◌≤◌, ◌<◌}
use mathlib.Core.Path.{◌≡◌, refl, sym, ap, subst, ◌∙◌}
use mathlib.Core.Bool.{Bool, true, false, cond, true≢false}
use mathlib.Core.List.{List, [], ◌∷◌, ◌++◌}
use native.Mathlib.Omega.{arith}
use borrow.Author.Tests.{leb-true, leb-false, le-leb, eqb-true, eqb-false}
use lib.Dec.{eqb, leb}
use lib.ListN.{length, get_or, replicate}
use Rattle.deciding.proofs.Both.{and_both, both_and}
use Rattle.lists.specs.Every.{every}
use Rattle.lists.specs.AtMost.{AtMost}
use Rattle.framing.specs.declared.Form.{Form}
use Rattle.framing.specs.Toc.{config_of, duration, in_time}
use Rattle.framing.specs.Lengths.{total}
use Rattle.framing.specs.Form.{form_of, behind, firsts, head, room, sizes}
use Rattle.framing.specs.Rules.{fits_frame, keeps}
use Rattle.framing.proofs.LengthLaws.{lengths_most, at_most_drop}
use Rattle.framing.proofs.Kept.{KeptBy, kept, kept_keeps, by_bool, firsts_varied, sizes_equal, sizes_varied, none_first}
use Rattle.packet_share.specs.Inner.{none, span, closed, shared}
use Rattle.packet_span.specs.Inner.{last_by, span_of}

every_last : (g : ℕ → Bool) (a : List ℕ) (x : ℕ) → every g (a ++ (x ∷ [])) ≡ true → g x ≡ true
every_last g [] x h = (and_both (g x) true h).0
every_last g (b ∷ a) x h = every_last g a x (and_both (g b) (every g (a ++ (x ∷ []))) h).1

every_snoc : (g : ℕ → Bool) (a : List ℕ) (x : ℕ) → every g a ≡ true → g x ≡ true → every g (a ++ (x ∷ [])) ≡ true
every_snoc g [] x h e = both_and (g x) true e refl
every_snoc g (b ∷ a) x h e =
    let p = and_both (g b) (every g a) h in
    both_and (g b) (every g (a ++ (x ∷ []))) p.0 (every_snoc g a x p.1 e)

every_same : (g : ℕ → Bool) (n x : ℕ) → g x ≡ true → every g (replicate n x) ≡ true
every_same g zero x e = refl
every_same g (suc n) x e = both_and (g x) (every g (replicate n x)) e (every_same g n x e)

same_every : (g : ℕ → Bool) (n x : ℕ) → 1 ≤ n → every g (replicate n x) ≡ true → g x ≡ true
same_every g zero x l h = absurd (omega arith)
same_every g (suc n) x l h = (and_both (g x) (every g (replicate n x)) h).0

module _ (s : List ℕ) (f : Form) (e : f ≡ form_of s) where
  pub last_varied : f.varied ≡ true → last_by f s ≡ room f s - total (firsts f s)
  last_varied v = ap (λ (b : Bool). cond b (room f s - total (firsts f s)) (room f s / f.count)) v

  pub last_equal : f.varied ≡ false → last_by f s ≡ room f s / f.count
  last_equal v = ap (λ (b : Bool). cond b (room f s - total (firsts f s)) (room f s / f.count)) v

  pub last_most : KeptBy f s → last_by f s ≤ 1275
  last_most k =
      by_bool f.varied
      (λ v.
      let h = every_last fits_frame (firsts f s) (room f s - total (firsts f s))
      (ap (λ (l : List ℕ). every fits_frame l) (sym (sizes_varied f s v)) ∙ k.small) in
      omega (arith, last_varied v, leb-true (room f s - total (firsts f s)) 1275 h))
      (λ v.
      let h = same_every fits_frame f.count (room f s / f.count) k.some
      (ap (λ (l : List ℕ). every fits_frame l) (sym (sizes_equal f s v)) ∙ k.small) in
      omega (arith, last_equal v, leb-true (room f s / f.count) 1275 h))

  small_of : AtMost 255 s → last_by f s ≤ 1275 → every fits_frame (sizes f s) ≡ true
  small_of y l =
      by_bool f.varied
      (λ v.
      let a : every fits_frame (firsts f s) ≡ true =
      ap (λ (x : List ℕ). every fits_frame x) (firsts_varied f s v)
      ∙ lengths_most (f.count - 1) (behind f s) (at_most_drop (f.own + f.lens) s y) in
      ap (λ (x : List ℕ). every fits_frame x) (sizes_varied f s v)
      ∙ every_snoc fits_frame (firsts f s) (room f s - total (firsts f s)) a
      (le-leb (room f s - total (firsts f s)) 1275 (omega (arith, last_varied v))))
      (λ v.
      ap (λ (x : List ℕ). every fits_frame x) (sizes_equal f s v)
      ∙ every_same fits_frame f.count (room f s / f.count) (le-leb (room f s / f.count) 1275 (omega (arith, last_equal v))))

  -- ---- the answers

  pub broken : (KeptBy f s → ⊥) → none ≡ span_of s
  unfolding span_of
  broken h =
      by_bool (keeps s) (λ t. absurd (h (subst (λ (g : Form). KeptBy g s) (sym e) (kept s t))))
      (λ t. sym (ap (λ (b : Bool). cond b (span (head (form_of s) s) (last_by (form_of s) s)) none) t))

  whole : KeptBy f s → span (head f s) (last_by f s) ≡ span_of s
  unfolding span_of
  whole k =
      ap (λ (g : Form). span (head g s) (last_by g s)) e
      ∙ sym (ap (λ (b : Bool). cond b (span (head (form_of s) s) (last_by (form_of s) s)) none)
      (kept_keeps s (subst (λ (g : Form). KeptBy g s) e k)))

  -- what is known once the lengths are read
  pub record Reached (h value : ℕ) : Type 0 where
    pub some : 1 ≤ f.count
    pub time : f.count * duration (config_of s) ≤ 1200
    pub at : h ≡ head f s
    pub firstly : value ≡ total (firsts f s)
    pub fits : h + f.pad + value ≤ length s

  closes : AtMost 255 s → (h value n : ℕ) → Reached h value → n ≡ last_by f s → (f.varied ≡ false → room f s % f.count ≡ 0)
      → closed h n ≡ span_of s
  closes y h value n r q d =
      ap (λ (x : ℕ). closed x n) r.at ∙ ap (λ (x : ℕ). closed (head f s) x) q
      ∙ by_bool (leb (last_by f s) 1275)
      (λ t.
      ap (λ (b : Bool). cond b (span (head f s) (last_by f s)) none) t
      ∙ whole (record {
        some = r.some;
        time = r.time;
        fits = omega (arith, r.at, r.firstly, r.fits);
        shares = d;
        small = small_of y (leb-true _ _ t);
      }))
      (λ t.
      ap (λ (b : Bool). cond b (span (head f s) (last_by f s)) none) t
      ∙ broken (λ k. let l : 1275 < last_by f s = leb-false _ _ t in omega (arith, last_most k)))

  pub closes_varied : AtMost 255 s → (h value n : ℕ) → Reached h value → n ≡ length s - (h + f.pad + value) → f.varied ≡ true
      → closed h n ≡ span_of s
  closes_varied y h value n r q v =
      closes y h value n r (omega (arith, q, last_varied v, r.at, r.firstly)) (λ u. absurd (true≢false (sym v ∙ u)))

  pub closes_shared : AtMost 255 s → (h value n : ℕ) → Reached h value → n ≡ length s - (h + f.pad + value) → f.varied ≡ false
      → shared h f.count n ≡ span_of s
  closes_shared y h value n r q v =
      let e : n ≡ room f s = omega (arith, q, r.at, r.firstly, none_first f s v) in
      by_bool (eqb (n % f.count) 0)
      (λ t.
      ap (λ (b : Bool). cond b (closed h (n / f.count)) none) t
      ∙ closes y h value (n / f.count) r (ap (λ (x : ℕ). x / f.count) e ∙ sym (last_equal v))
      (λ u. ap (λ (x : ℕ). x % f.count) (sym e) ∙ eqb-true (n % f.count) 0 t))
      (λ t.
      ap (λ (b : Bool). cond b (closed h (n / f.count)) none) t
      ∙ broken (λ k. eqb-false (n % f.count) 0 t (ap (λ (x : ℕ). x % f.count) e ∙ k.shares v)))

  -- ---- the first byte

  module _ (toc : ℕ) (p : toc ≡ get_or s 0 0) where
    timed : (b : Bool) → b ≡ in_time f.count (toc / 8) → in_time f.count (config_of s) ≡ b
    timed b q = ap (λ (x : ℕ). in_time f.count (x / 8)) (sym p) ∙ sym q

    pub late : false ≡ in_time f.count (toc / 8) → none ≡ span_of s
    late q =
        broken (λ k. let l = leb-false (f.count * duration (config_of s)) 1200 (timed false q) in omega (arith, k.time, l))

    pub reached : (w v : ℕ) → (f.count ≡ 0 → ⊥) → true ≡ in_time f.count (toc / 8) → v ≡ total (firsts f s)
        → f.own + f.lens + w ≡ head f s → f.own + f.lens + w + f.pad + v ≤ length s → Reached (f.own + f.lens + w) v
    reached w v n q x h u =
        record { some = omega arith; time = leb-true _ _ (timed true q); at = h; firstly = x; fits = u }
