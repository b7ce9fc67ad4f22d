-- The length of one frame after the other: where it stands, and that it lies inside the packet. Assumes nothing.
use Prim.Native.Nat.{ℕ, zero, suc, ◌+◌, ◌-◌, ◌/◌, ◌≤◌, ◌<◌}
use mathlib.Core.Path.{◌≡◌, refl, sym, ap, subst, ◌∙◌}
use mathlib.Core.Bool.{true, false}
use mathlib.Core.List.{List, [], ◌∷◌, ◌++◌}
use native.Mathlib.Omega.{arith}
use lib.ListN.{length, get_or, drop, replicate, get_or-append}
use lib.Seq.{drop-drop, get_or-append-add}
use Rattle.deciding.proofs.Choice.{chosen_lt}
use Rattle.framing.specs.declared.Form.{Form}
use Rattle.framing.specs.Lengths.{length_of, width_of, lengths, widths, total}
use Rattle.framing.specs.Form.{behind, firsts, room, sizes}
use Rattle.framing.proofs.LengthLaws.{lengths_count}
use Rattle.framing.proofs.Kept.{KeptBy, kept, head_varied, firsts_varied, sizes_equal, sizes_varied}
use Rattle.packet_span.proofs.SpanLaws.{last_varied, last_equal, last_most}
use Rattle.packet_next.specs.Inner.{length_at, Next}

-- ---- of n lengths

pub width_some : (r : List ℕ) → (1 ≤ width_of r) × (width_of r ≤ 2)
width_some r = chosen_lt (λ (w : ℕ). (1 ≤ w) × (w ≤ 2)) (get_or r 0 0) 252 (λ h. (omega arith, omega arith))
    (λ h. (omega arith, omega arith))

widths_more : (k : ℕ) (r : List ℕ) → widths (suc k) r ≡ widths k r + width_of (drop (widths k r) r)
unfolding widths
widths_more zero r = omega arith
widths_more (suc k) r =
    let w = width_of r in
    let i : widths (suc k) (drop w r) ≡ widths k (drop w r) + width_of (drop (widths k (drop w r)) (drop w r)) = widths_more k (drop w r) in
    let j : width_of (drop (widths k (drop w r)) (drop w r)) ≡ width_of (drop (w + widths k (drop w r)) r) =
    ap width_of (drop-drop (widths k (drop w r)) w r) in
    omega (arith, i, j)

-- the length at place k, and the bytes up to its end
pub lengths_at : (n k : ℕ) (r : List ℕ) → k < n → get_or (lengths n r) k 0 ≡ length_of (drop (widths k r) r)
unfolding lengths widths
lengths_at zero k r h = absurd (omega arith)
lengths_at (suc n) zero r h = refl
lengths_at (suc n) (suc k) r h =
    lengths_at n k (drop (width_of r) r) (omega arith) ∙ ap length_of (drop-drop (widths k (drop (width_of r) r)) (width_of r) r)

widths_below : (n k : ℕ) (r : List ℕ) → k < n → widths (suc k) r ≤ widths n r
unfolding widths
widths_below zero k r h = absurd (omega arith)
widths_below (suc n) zero r h = omega arith
widths_below (suc n) (suc k) r h = omega (arith, widths_below n k (drop (width_of r) r) (omega arith))

-- ---- of the next frame

module _ (s : List ℕ) (f : Form) (last at k : ℕ) (n : Next s f last at k) where
  by_form : KeptBy f s
  by_form = subst (λ (g : Form). KeptBy g s) (sym n.form) (kept s n.rules)

  pub next_small : last ≤ 1275
  next_small = omega (arith, n.last, last_most s f n.form by_form)

  module _ (v : f.varied ≡ true) where
    -- what stands at the place
    there : drop at s ≡ drop (widths k (behind f s)) (behind f s)
    there = ap (λ (i : ℕ). drop i s) (n.place v) ∙ sym (drop-drop (widths k (behind f s)) (f.own + f.lens) s)

    further : at + width_of (drop at s) ≡ length_at s f (suc k)
    further = omega (arith, n.place v, ap width_of there, widths_more k (behind f s))

    pub next_inside : k + 1 < f.count → at + width_of (drop at s) ≤ length s
    next_inside h = omega (arith, further, widths_below (f.count - 1) k (behind f s) (omega arith), head_varied f s v, by_form.fits)

    pub next_place : (w : ℕ) → w ≡ width_of (drop at s) → at + w ≡ length_at s f (suc k)
    next_place w e = omega (arith, further)

    pub next_written : k + 1 < f.count → length_of (drop at s) ≡ get_or (sizes f s) k 0
    next_written h =
        let c : length (firsts f s) ≡ f.count - 1 = ap length (firsts_varied f s v) ∙ lengths_count (f.count - 1) (behind f s) in
        ap length_of there
        ∙ sym (lengths_at (f.count - 1) k (behind f s) (omega arith))
        ∙ ap (λ (l : List ℕ). get_or l k 0) (sym (firsts_varied f s v))
        ∙ sym (get_or-append (firsts f s) ((room f s - total (firsts f s)) ∷ []) 0 k (omega (arith, c)))
        ∙ ap (λ (l : List ℕ). get_or l k 0) (sym (sizes_varied f s v))

    pub next_rest : (k + 1 < f.count → ⊥) → last ≡ get_or (sizes f s) k 0
    next_rest h =
        let x = room f s - total (firsts f s) in
        let c : length (firsts f s) ≡ f.count - 1 = ap length (firsts_varied f s v) ∙ lengths_count (f.count - 1) (behind f s) in
        let e : length (firsts f s) + 0 ≡ k = omega (arith, c, n.some) in
        n.last ∙ last_varied s f n.form v
        ∙ sym (get_or-append-add (firsts f s) (x ∷ []) 0 0)
        ∙ ap (λ (i : ℕ). get_or (firsts f s ++ (x ∷ [])) i 0) e
        ∙ ap (λ (l : List ℕ). get_or l k 0) (sym (sizes_varied f s v))

  pub next_share : f.varied ≡ false → last ≡ get_or (sizes f s) k 0
  next_share v =
      n.last ∙ last_equal s f n.form v ∙ sym (same f.count (room f s / f.count) k n.some)
      ∙ ap (λ (l : List ℕ). get_or l k 0) (sym (sizes_equal f s v))
    where
      same : (m x i : ℕ) → i < m → get_or (replicate m x) i 0 ≡ x
      same zero x i h = absurd (omega arith)
      same (suc m) x zero h = refl
      same (suc m) x (suc i) h = same m x i (omega arith)
