-- Parts of some sizes are put into twelve places, one after the other: what holds of the first k, and that all of them stand. Assumes
-- nothing.
use Prim.Native.Nat.{ℕ, suc, ◌+◌, ◌-◌, ◌*◌, ◌≤◌, ◌<◌}
use mathlib.Core.Path.{◌≡◌, refl, sym, ap, ◌∙◌}
use mathlib.Core.List.{List, [], ◌∷◌, ◌++◌, append_assoc}
use native.Mathlib.Omega.{arith}
use lib.ListN.{length, get_or, take, set, replicate}
use lib.Seq.{set_at, take-suc, take-length, length-take-le}
use Rattle.framing.specs.Lengths.{total}
use Rattle.framing.specs.Reading.{starts, twelve}
use Rattle.framing.proofs.Whole.{starts_count, total_append, total_one}
use Rattle.packet_places.specs.declared.Places.{Places}
use Rattle.packet_places.specs.Inner.{Stands}

-- k places filled by p, zeros behind them
abbrev filled : ℕ → List ℕ → List ℕ
filled k p = p ++ replicate (12 - k) 0

put_next : (p : List ℕ) (k v : ℕ) → length p ≡ k → k < 12 → set (filled k p) k v ≡ filled (k + 1) (p ++ (v ∷ []))
put_next p k v l h =
    let n : 12 - k ≡ suc (12 - (k + 1)) = omega arith in
    let z : List ℕ = replicate (12 - (k + 1)) 0 in
    ap (λ (m : ℕ). set (p ++ replicate m 0) k v) n ∙ set_at p 0 z v k l ∙ sym (append_assoc p (v ∷ []) z)

all_filled : (p : List ℕ) (k : ℕ) → length p ≡ k → filled k p ≡ twelve p
all_filled p k l = ap (λ (m : ℕ). p ++ replicate (12 - m) 0) (sym l)

starts_more : (a : ℕ) (p : List ℕ) (x : ℕ) → starts a (p ++ (x ∷ [])) ≡ starts a p ++ ((a + total p) ∷ [])
unfolding starts total
starts_more a [] x = let e : a + 0 ≡ a = omega arith in ap (λ (n : ℕ). n ∷ []) (sym e)
starts_more a (n ∷ p) x =
    let e : a + n + total p ≡ a + (n + total p) = omega arith in
    ap (λ (l : List ℕ). a ∷ l) (starts_more (a + n) p x ∙ ap (λ (m : ℕ). starts (a + n) p ++ (m ∷ [])) e)

-- the first k stand in their places, and the next one starts at place
pub record First (ns : List ℕ) (h : ℕ) (start size : List ℕ) (place k : ℕ) : Type 0 where
  pub most : k ≤ length ns
  pub next : place ≡ h + total (take k ns)
  pub near : place ≤ h + 1275 * k
  pub started : start ≡ filled k (starts h (take k ns))
  pub sized : size ≡ filled k (take k ns)

module _ (ns : List ℕ) (h : ℕ) where
  pub none_yet : First ns h (replicate 12 0) (replicate 12 0) h 0
  unfolding starts total
  none_yet = record { most = omega arith; next = omega arith; near = omega arith; started = refl; sized = refl }

  pub one_more : (start size : List ℕ) (place k v : ℕ) → First ns h start size place k → length ns ≤ 12 → k < length ns → v ≡ get_or ns k 0
      → v ≤ 1275
      → First ns h (set start k place) (set size k v) (place + v) (k + 1)
  one_more start size place k v i w l e m =
      let n : suc k ≡ k + 1 = omega arith in
      let p = take k ns in
      let c : length p ≡ k = length-take-le k ns (omega arith) in
      let t : take (k + 1) ns ≡ p ++ (v ∷ []) =
      ap (λ (j : ℕ). take j ns) (sym n) ∙ take-suc ns k 0 l ∙ ap (λ (x : ℕ). p ++ (x ∷ [])) (sym e) in
      let u : total (take (k + 1) ns) ≡ total p + v = ap total t ∙ total_append p (v ∷ []) ∙ ap (λ (j : ℕ). total p + j) (total_one v) in
      record {
        most = omega arith;
        next = omega (arith, i.next, u);
        near = omega (arith, i.near);
        started =
            ap (λ (z : List ℕ). set z k place) i.started
            ∙ put_next (starts h p) k place (starts_count h p ∙ c) (omega arith)
            ∙ ap (λ (j : ℕ). filled (k + 1) (starts h p ++ (j ∷ []))) i.next
            ∙ ap (λ (z : List ℕ). filled (k + 1) z) (sym (ap (λ (z : List ℕ). starts h z) t ∙ starts_more h p v));
        sized =
            ap (λ (z : List ℕ). set z k v) i.sized ∙ put_next p k v c (omega arith) ∙ ap (λ (z : List ℕ). filled (k + 1) z) (sym t);
      }

  pub all_stand : (q : Places) (place k : ℕ) → First ns h q.start q.size place k → k ≡ length ns → Stands ns h q
  all_stand q place k i e =
      let t : take k ns ≡ ns = ap (λ (j : ℕ). take j ns) e ∙ take-length ns in
      let z : length (take k ns) ≡ k = ap length t ∙ sym e in
      record {
        size = i.sized ∙ all_filled (take k ns) k z ∙ ap twelve t;
        start = i.started ∙ all_filled (starts h (take k ns)) k (starts_count h (take k ns) ∙ z)
            ∙ ap (λ (l : List ℕ). twelve (starts h l)) t;
      }
