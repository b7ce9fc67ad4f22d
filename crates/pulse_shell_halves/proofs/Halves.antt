-- The halves of a slice, read one after the other: what was read stands in front, the rest behind it is as it was. Assumes nothing.
use Prim.Native.Nat.{ℕ, zero, suc, ◌+◌, ◌-◌, ◌*◌, ◌<◌, ◌≤◌}
use mathlib.Core.Path.{◌≡◌, refl, sym, ap, subst, ◌∙◌}
use mathlib.Core.Bool.{cond}
use mathlib.Core.List.{List, [], ◌++◌, append_assoc, append-nil}
use native.Mathlib.Omega.{arith}
use lib.Dec.{eqb}
use lib.IntN.{ℤ}
use lib.ListN.{length, take, drop, length-append, length-drop, take-append-drop, drop_of_length-le}
use lib.Seq.{drop-drop, length-take-le}
use Rattle.lists.proofs.Parts.{replaced}
use Rattle.entcode.specs.declared.Dec.{Dec}
use Rattle.silk.specs.PulseSyntax.{split, shell}
use Rattle.silk.specs.Inner.Pulses.{Placed}
use Rattle.silk.proofs.PulseSteps.{halves}
use Rattle.symbol_reader.specs.declared.Reader.{Reader}
use Rattle.symbol_reader.specs.Inner.{Along}
use Rattle.symbol_reader.proofs.AlongLaws.{along_ran}

-- how many of p pulses lie in half h, where `left` lie in the first
abbrev half_count : ℕ → ℕ → ℕ → ℕ
half_count left p h = cond (eqb h 0) left (p - left)

within : (w h : ℕ) → h ≤ 2 → h * w ≤ w + w
within w zero l = omega arith
within w (suc zero) l = omega arith
within w (suc (suc zero)) l = omega arith
within w (suc (suc (suc h))) l = absurd (omega arith)

one_more : (w h : ℕ) → h < 2 → h * w + w ≡ (h + 1) * w
one_more w zero l = omega arith
one_more w (suc zero) l = omega arith
one_more w (suc (suc h)) l = absurd (omega arith)

-- each half of 2^k places, with `left` of p pulses in the first; a half has at most n bits
module _ (b : List ℕ) (k n left p : ℕ) (d₀ : Dec) where
  record Both (s : List ℤ) (q : Dec) : Type 0 where
    pub one : List ℤ
    pub two : List ℤ
    pub between : Dec
    pub is : s ≡ one ++ two
    pub first : Placed b d₀ (shell k left) n one between
    pub second : Placed b between (shell k (p - left)) n two q

  -- what h halves leave
  unfoldable Read : ℕ → List ℤ → Dec → Type 0
  Read zero s q = (s ≡ []) × (q ≡ d₀)
  Read (suc zero) s q = Placed b d₀ (shell k left) n s q
  Read (suc (suc h)) s q = Both s q

  next_read : (h : ℕ) (f y : List ℤ) (q z : Dec) → h < 2 → Read h f q → Placed b q (shell k (half_count left p h)) n y z → Read (h + 1) (f ++ y) z
  unfolding Read
  next_read zero f y q z l e r = rw e.0 (subst (λ (d : Dec). Placed b d (shell k left) n y z) e.1 r)
  next_read (suc zero) f y q z l e r = record { one = f; two = y; between = q; is = refl; first = e; second = r }
  next_read (suc (suc h)) f y q z l e r = absurd (omega arith)

  both_read : (h : ℕ) (f : List ℤ) (q : Dec) → 2 ≤ h → Read h f q → Both f q
  unfolding Read
  both_read zero f q l r = absurd (omega arith)
  both_read (suc zero) f q l r = absurd (omega arith)
  both_read (suc (suc h)) f q l r = r

-- h halves of 2 x w places are read, from the reader r₀ on
pub record Halving (k w n left p : ℕ) (r₀ : Reader) (s₀ : List ℤ) (r : Reader) (s : List ℤ) (h : ℕ) : Type 0 where
  front : List ℤ
  is : s ≡ front ++ drop (h * w) s₀
  size : length front ≡ h * w
  read : Read r₀.packet.now k n left p r₀.state h front r.state
  wide : length s₀ ≡ w + w
  to : h ≤ 2
  pub packet : r.packet ≡ r₀.packet
  pub most : r.state.total ≤ r₀.state.total + h * n
  pub fewer : left ≤ p

-- a half read behind the split, as read from the packet before it
same_packet : (r z : Reader) (k c : ℕ) {d q : Dec} {n : ℕ} {s : List ℤ} → z.packet ≡ r.packet → Placed z.packet.now d (shell k c) n s q
    → Placed r.packet.now d (shell k c) n s q
same_packet r z k c e a = rw e at a

module _ {k w n left p : ℕ} {r₀ : Reader} {s₀ : List ℤ} where
  pub halving_start : left ≤ p → length s₀ ≡ w + w → Halving k w n left p r₀ s₀ r₀ s₀ 0
  unfolding Read
  halving_start l e =
      let z : 0 * w ≡ 0 = omega arith in
      record {
        front = [];
        is = ap (λ (i : ℕ). drop i s₀) (sym z);
        size = sym z;
        read = (refl, refl);
        wide = e;
        to = omega arith;
        packet = refl;
        most = omega arith;
        fewer = l;
      }

  module _ {r : Reader} {s : List ℤ} {h : ℕ} (g : Halving k w n left p r₀ s₀ r s h) where
    sized : length s ≡ h * w + (w + w - h * w)
    sized = ap length g.is ∙ length-append g.front (drop (h * w) s₀) ∙ rw (g.size, length-drop (h * w) s₀, g.wide)

    pub halving_kept : length s ≡ length s₀
    halving_kept = omega (arith, sized, within w h g.to, g.wide)

    -- both are read, behind their split
    pub halving_end : {r₋ : Reader} → 2 ≤ h → Along r₋ (split k p) 16 left r₀
        → Placed r₋.packet.now r₋.state (shell (suc k) p) (16 + (n + (n + 0))) s r.state
    halving_end {r₋ = r₋} l a =
        let t = both_read r₀.packet.now k n left p r₀.state h g.front r.state l g.read in
        let two : h ≡ 2 = omega (arith, g.to) in
        let all : length s₀ ≤ h * w = omega (arith, g.wide, ap (λ (i : ℕ). i * w) two) in
        let e : s ≡ t.one ++ t.two = g.is ∙ rw (drop_of_length-le s₀ {i = h * w} all) (append-nil g.front ∙ t.is) in
        rw e (halves k p (along_ran a) (same_packet r₋ r₀ k left a.packet t.first)
        (same_packet r₋ r₀ k (p - left) a.packet t.second))

    module _ (l : h < 2) where
      pub halving_fits : h * w + w ≤ length s
      halving_fits = omega (arith, halving_kept, g.wide, one_more w h l, within w (h + 1) (omega arith))

      -- the half at hand
      part : length (take (h * w + w - h * w) (drop (h * w) s)) ≡ w
      part = length-take-le (h * w + w - h * w) (drop (h * w) s) (omega (arith, length-drop (h * w) s, halving_fits)) ∙ omega arith

      ahead : w ≤ length (drop (h * w) s₀)
      ahead = omega (arith, length-drop (h * w) s₀, g.wide, one_more w h l, within w (h + 1) (omega arith))

      stored : (y : List ℤ) → take (h * w) s ++ (y ++ drop (h * w + w - h * w) (drop (h * w) s)) ≡ (g.front ++ y) ++ drop ((h + 1) * w) s₀
      stored y =
          let m = take w (drop (h * w) s₀) in
          let r = drop w (drop (h * w) s₀) in
          replaced (h * w) (h * w + w) s g.front m r
          (g.is ∙ ap (λ (t : List ℤ). g.front ++ t) (sym (take-append-drop w (drop (h * w) s₀))))
          g.size (omega (arith, length-take-le w (drop (h * w) s₀) ahead)) y
          ∙ sym (append_assoc g.front y r)
          ∙ ap (λ (t : List ℤ). (g.front ++ y) ++ t) (drop-drop w (h * w) s₀ ∙ ap (λ (i : ℕ). drop i s₀) (one_more w h l))

      -- it is read
      pub halving_next : {c : ℕ} {y : List ℤ} {z : Reader} → c ≡ half_count left p h → length y ≡ length (take (h * w + w - h * w) (drop (h * w) s))
          → z.packet ≡ r.packet → Placed r.packet.now r.state (shell k c) n y z.state
          → Halving k w n left p r₀ s₀ z (take (h * w) s ++ (y ++ drop (h * w + w - h * w) (drop (h * w) s))) (h + 1)
      halving_next {c = c} {y = y} {z = z} f e q a =
          let at = rw g.packet at a in
          record {
            front = g.front ++ y;
            is = stored y;
            size = length-append g.front y ∙ omega (arith, g.size, e, part, one_more w h l);
            read = next_read r₀.packet.now k n left p r₀.state h g.front y r.state z.state l g.read (rw f at at);
            wide = g.wide;
            to = omega arith;
            packet = q ∙ g.packet;
            most = omega (arith, a.ran.most, g.most, one_more n h l);
            fewer = g.fewer;
          }
