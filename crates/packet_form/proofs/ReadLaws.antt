-- Lengths read one after the other. Assumes nothing.
use Rattle.std.proofs.Common.{ℕ, ◌+◌, ◌-◌, ◌*◌, ◌≤◌, ◌<◌, ◌≡◌, List, length, get_or, drop, sym, ap, arith}
use Rattle.framing.specs.Lengths.{length_of, width_of, lengths, widths, total}
use Rattle.framing.specs.Padding.{pad_lengths, pad_bytes}
use Rattle.framing.proofs.Steps.{inside, lengths_step, widths_step, pad_more}

-- what was read in k turns
pub record Read (s : List ℕ) (at n value width k : ℕ) : Type 0 where
  pub most : k ≤ n
  pub values : value + total (lengths (n - k) (drop (at + width) s)) ≡ total (lengths n (drop at s))
  pub bytes : width + widths (n - k) (drop (at + width) s) ≡ widths n (drop at s)
  pub small : value ≤ 1275 * k
  pub short : width ≤ 2 * k

pub start : (s : List ℕ) (at n : ℕ) → Read s at n 0 0 0
start s at n =
    let e : at + 0 ≡ at = omega arith in
    let f : n - 0 ≡ n = omega arith in
    record {
      most = omega arith;
      values = rw (e, f) (omega arith);
      bytes = rw (e, f)
          (omega arith);
      small = omega arith;
      short = omega arith;
    }

pub turn : (s : List ℕ) (at n value width k v w : ℕ) → Read s at n value width k → k < n
    → v ≡ length_of (drop (at + width) s) → w ≡ width_of (drop (at + width) s) → v ≤ 1275 → w ≤ 2
    → Read s at n (value + v) (width + w) (k + 1)
turn s at n value width k v w i h p q l m =
    let a = lengths_step s at width k n h in
    let b = widths_step s at width k n h in
    let x : width + width_of (drop (at + width) s) ≡ width + w = ap (λ (z : ℕ). width + z) (sym q) in
    let c : total (lengths (n - (k + 1)) (drop (at + (width + width_of (drop (at + width) s))) s)) ≡ total
    (lengths (n - (k + 1)) (drop (at + (width + w)) s)) =
    ap (λ (z : ℕ). total (lengths (n - (k + 1)) (drop (at + z) s))) x in
    let d : widths (n - (k + 1)) (drop (at + (width + width_of (drop (at + width) s))) s) ≡ widths (n - (k + 1))
    (drop (at + (width + w)) s) =
    ap (λ (z : ℕ). widths (n - (k + 1)) (drop (at + z) s)) x in
    record {
      most = omega arith;
      values = omega (arith, i.values, a, c, p);
      bytes = omega (arith, i.bytes, b, d, q);
      small = omega (arith, i.small);
      short = omega (arith, i.short);
    }

-- no length is left
pub whole : (s : List ℕ) (at n value width k : ℕ) → Read s at n value width k → k ≡ n
    → (value ≡ total (lengths n (drop at s))) × (width ≡ widths n (drop at s))
unfolding lengths widths total
whole s at n value width k i h =
    let e : n - k ≡ 0 = omega arith in
    let r = drop (at + width) s in
    let x : total (lengths (n - k) r) ≡ 0 = ap (λ (m : ℕ). total (lengths m r)) e in
    let y : widths (n - k) r ≡ 0 = ap (λ (m : ℕ). widths m r) e in
    (omega (arith, i.values), omega (arith, i.bytes))

-- ---- padding

-- n length bytes of 255 stand at the place
pub record Runs (s : List ℕ) (at n : ℕ) : Type 0 where
  pub most : n ≤ length s
  pub many : n + pad_lengths (drop (at + n) s) ≡ pad_lengths (drop at s)
  pub bytes : 254 * n + pad_bytes (drop (at + n) s) ≡ pad_bytes (drop at s)

pub runs_start : (s : List ℕ) (at : ℕ) → Runs s at 0
runs_start s at = let e : at + 0 ≡ at = omega arith in record { most = omega arith; many = rw e (omega arith); bytes = rw e (omega arith) }

pub runs_turn : (s : List ℕ) (at n : ℕ) → Runs s at n → get_or s (at + n) 0 ≡ 255 → Runs s at (n + 1)
runs_turn s at n r e =
    let p = pad_more s (at + n) e in
    let q : at + n + 1 ≡ at + (n + 1) = omega arith in
    let l : at + n < length s = inside s (at + n) (omega arith) in
    record {
      most = omega arith;
      many = omega (arith, r.many, p.0, ap (λ (i : ℕ). pad_lengths (drop i s)) q);
      bytes = omega (arith, r.bytes, p.1, ap (λ (i : ℕ). pad_bytes (drop i s)) q);
    }
