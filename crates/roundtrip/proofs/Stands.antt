-- The reader's coded part stands where the writer's stood: its range is the interval's, and its value is what the packet's number is short of the
-- interval's top. So the part that the writer cut is the one that holds the value. Part 12 of the argument. Assumes nothing.
use Prim.Native.Nat.{ℕ, suc, ◌+◌, ◌-◌, ◌*◌, ◌/◌, ◌%◌, ◌^◌, ◌≤◌, ◌<◌, min}
use mathlib.Core.Path.{◌≡◌, refl, sym, ap, ◌∙◌, subst}
use mathlib.Core.Bool.{Bool, true, false, cond}
use mathlib.Core.List.{List}
use native.Mathlib.Omega.{arith}
use borrow.Author.Tests.{leb-true}
use lib.Dec.{leb}
use lib.ListN.{length, get_or, get_or-eq_default}
use Rattle.deciding.proofs.Choice.{by_lt}
use Rattle.entcode.specs.declared.Dec.{Dec}
use Rattle.entcode.specs.Cuts.{upper, lower}
use Rattle.entcode.proofs.CutLaws.{Proper, cut_ok}
use Rattle.entcode.specs.Inner.Reading.{CutOk}
use Rattle.entcode.specs.Reader.{shift_r, norm_r, settled, fresh, opened, cut_r, cut_down, Bytes}
use Rattle.roundtrip.proofs.Digits.{code, code_step}
use Rattle.roundtrip.proofs.Interval.{Interval, shift_i, norm_i, cut_i, code_i, open_i}
use Rattle.roundtrip.proofs.Within.{In, Within, code_cut, norm_back}

-- j + 1 bytes of the packet b are read, but for the last bit; the interval is [L, L + R)
pub record Stands (b : List ℕ) (d : Dec) (j L R : ℕ) : Type 0 where
  pub rng : d.rng ≡ R
  pub val : d.val + code b (suc j) + 1 ≡ L + R
  pub rem : d.rem ≡ get_or b j 0
  pub offs : d.offs ≡ min (suc j) (length b)

-- the same, of an interval
abbrev pub StandsI : List ℕ → Dec → Interval → Type 0
StandsI b d a = Stands b d (suc (suc (suc a.digits))) a.low a.size

-- ---- single steps

-- reading past the end gives 0
at_min : (b : List ℕ) (m : ℕ) → get_or b (min m (length b)) 0 ≡ get_or b m 0
at_min b m =
    by_lt m (length b)
    (λ h. let e : min m (length b) ≡ m = omega arith in rw e)
    (λ h. let e : min m (length b) ≡ length b = omega arith in
    let l : length b ≤ length b = omega arith in
    rw e (get_or-eq_default b 0 l ∙ sym (get_or-eq_default b 0 h)))

-- a cut: the packet lies within it, so it holds the value
stands_cut : (b : List ℕ) (d : Dec) (j L R t s : ℕ) → Stands b d j L R → s ≤ t → t ≤ R → In b j (L + (R - t)) (t - s)
    → (s ≤ d.val) × (d.val < t) × Stands b (cut_r d t s) j (L + (R - t)) (t - s)
stands_cut b d j L R t s S st tR i =
    let lo : s ≤ d.val = omega (arith, S.val, i.high) in
    (lo, omega (arith, S.val, i.low), record { rng = refl; val = omega (arith, S.val); rem = S.rem; offs = S.offs })

-- the value v after a turn over the bytes x, y: the mask is idle
shifted_value : (v x y c e L R : ℕ) → v < 2 ^ 23 → e ≡ 256 * c + (256 * x + y) / 2 % 256 → v + c + 1 ≡ L + R
    → (256 * v + (255 - (256 * x + y) / 2 % 256)) % 2 ^ 31 + e + 1 ≡ 256 * L + 256 * R
shifted_value v x y c e L R h p f =
    let s : ℕ = (256 * x + y) / 2 % 256 in
    let m : (256 * v + (255 - s)) % 2 ^ 31 ≡ 256 * v + (255 - s) = omega arith in
    omega arith

module _ (b : List ℕ) (bytes : Bytes b) where
  stands_shift : (d : Dec) (j L R : ℕ) → Stands b d j L R → L ≤ code b (suc j) → R ≤ 2 ^ 23
      → Stands b (shift_r b d) (suc j) (256 * L) (256 * R)
  stands_shift d j L R S i l =
      let here : get_or b d.offs 0 ≡ get_or b (suc j) 0 = ap (λ (i : ℕ). get_or b i 0) S.offs ∙ at_min b (suc j) in
      record {
        rng = ap (λ (n : ℕ). 256 * n) S.rng;
        val =
            rw (here, S.rem)
            (shifted_value d.val (get_or b j 0) (get_or b (suc j) 0) (code b (suc j)) (code b (suc (suc j))) L R
            (omega (arith, S.val)) (code_step b j (bytes (suc j))) S.val);
        rem = here;
        offs = rw S.offs (omega arith);
      }

  -- ---- opening: one byte, and three turns

  pub stands_open : StandsI b (opened b) open_i
  unfolding opened settled
  stands_open =
      let f = fresh b in
      let z : Stands b f 0 0 128 = record { rng = refl; val = omega (arith, bytes 0); rem = refl; offs = refl } in
      let a : Stands b (shift_r b f) 1 0 32768 = stands_shift f 0 0 128 z (omega arith) (omega arith) in
      let c : Stands b (shift_r b (shift_r b f)) 2 0 (2 ^ 23) = stands_shift (shift_r b f) 1 0 32768 a (omega arith) (omega arith) in
      stands_shift (shift_r b (shift_r b f)) 2 0 (2 ^ 23) c (omega arith) (omega arith)

  -- ---- a coded part

  norm_by : (t : Bool) (d : Dec) (a : Interval) → leb a.size (2 ^ 23) ≡ t → StandsI b d a → Within b a
      → StandsI b (cond t (shift_r b d) d) (cond t (shift_i a) a)
  norm_by true d a e s i = stands_shift d _ a.low a.size s i.low (leb-true a.size (2 ^ 23) e)
  norm_by false d a e s i = s

  stands_norm : (d : Dec) (a : Interval) → StandsI b d a → Within b a → StandsI b (norm_r b d) (norm_i a)
  stands_norm d a s i =
      subst (λ (x : ℕ). StandsI b (cond (leb x (2 ^ 23)) (shift_r b d) d) (norm_i a)) (sym s.rng)
      (norm_by (leb a.size (2 ^ 23)) d a refl s i)

  -- the piece [fl, fh) of ft that the writer cut holds the value, and the reader that takes it stands where the writer went
  pub record Coded (d : Dec) (a : Interval) (fl fh ft : ℕ) : Type 0 where
    pub low : lower d.rng fh ft ≤ d.val
    pub high : d.val < upper d.rng fl ft
    pub stands : StandsI b (cut_down b d (upper d.rng fl ft) (lower d.rng fh ft)) (code_i a fl fh ft)

  pub coded_stands : (d : Dec) (a : Interval) (fl fh ft : ℕ) → StandsI b d a → 2 ^ 23 < a.size → Proper fl fh ft → Within b (code_i a fl fh ft)
      → Coded d a fl fh ft
  unfolding cut_down
  coded_stands d a fl fh ft s h p i =
      let t = upper a.size fl ft in
      let u = lower a.size fh ft in
      let e : d.rng ≡ a.size = s.rng in
      let k : CutOk a.size t u = cut_ok a.size fl fh ft h p in
      let c = cut_i a t u in
      let i1 : Within b c = code_cut b bytes a fl fh ft i in
      let i2 : Within b (norm_i c) = norm_back b bytes (leb (norm_i c).size (2 ^ 23)) (norm_i c) i in
      let q = stands_cut b d _ a.low a.size t u s (omega (arith, k.some)) k.inside i1 in
      let n1 : StandsI b (norm_r b (cut_r d t u)) (norm_i c) = stands_norm (cut_r d t u) c q.2 i1 in
      let n2 : StandsI b (norm_r b (norm_r b (cut_r d t u))) (norm_i (norm_i c)) = stands_norm (norm_r b (cut_r d t u)) (norm_i c) n1 i2 in
      record {
        low = rw e q.0;
        high = rw e q.1;
        stands = subst (λ (x : ℕ). StandsI b (norm_r b (norm_r b (cut_r d (upper x fl ft) (lower x fh ft)))) (code_i a fl fh ft)) (sym e) n2;
      }
